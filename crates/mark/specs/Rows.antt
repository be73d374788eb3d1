-- What a mark finds in a row of places, by its sites and its codes. Assumes nothing.
use Rattle.std.specs.Prelude.{ℕ, ◌+◌, Bool, false, if◌then◌else◌, ◌||◌, List, [], ◌∷◌, ℤ}
use Rattle.carrier.specs.Meaning.{Site}
use Rattle.mark.specs.Places.{is_at_top, is_slot, is_mapped}

-- how many places pass a test
abbrev pub places_with : (Site → ℤ → Bool) → List Site → List ℤ → ℕ
places_with test [] codes = 0
places_with test (s ∷ sites) [] = 0
places_with test (s ∷ sites) (c ∷ codes) = (if test s c then 1 else 0) + places_with test sites codes

-- whether some place passes it
abbrev pub some_with : (Site → ℤ → Bool) → List Site → List ℤ → Bool
some_with test [] codes = false
some_with test (s ∷ sites) [] = false
some_with test (s ∷ sites) (c ∷ codes) = test s c || some_with test sites codes

-- the bits that a mark can carry, map and record together
abbrev pub slots : ℤ → ℤ → List Site → List ℤ → ℕ
slots p z sites codes = places_with (is_slot p z) sites codes

-- the length of the map: if some active code is at its top, a bit for each place whose flat is one below its top
abbrev pub map_bits_of : ℤ → ℤ → List Site → List ℤ → ℕ
map_bits_of p z sites codes = if some_with (is_at_top p z) sites codes then places_with (is_mapped p z) sites codes else 0
