-- How often each code occurs, and where a row of counts has its first best. Assumes nothing.
use Rattle.std.specs.Prelude.{◌≡◌, ℕ, suc, ◌+◌, ◌*◌, Bool, if◌then◌else◌, List, [], ◌∷◌, map, ℤ, pos, ◌-ℤ◌, slice_index}
use Rattle.std.specs.List.{range_with_len}
use Rattle.carrier.specs.Meaning.{Site}
use Rattle.mark.specs.Places.{same}
use Rattle.mark.specs.Rows.{places_with}

-- the place has this code
abbrev pub has_code : ℤ → Site → ℤ → Bool
has_code c site code = same code c

-- how many places have the code c
abbrev pub occurs : List Site → List ℤ → ℤ → ℕ
occurs sites codes c = places_with (has_code c) sites codes

-- a tally of the codes from -reach to reach has, at k, the code k - reach
abbrev pub tallied : ℕ → ℕ → ℤ
tallied reach k = pos k -ℤ pos reach

-- how often each of these codes occurs, the smallest code first
unfoldable pub tally : ℕ → List Site → List ℤ → List ℕ
tally reach sites codes = map (λ k. occurs sites codes (tallied reach k)) (range_with_len 0 (2 * reach + 1))

-- each answer about two counts is what o says of them
abbrev pub AnswersAs : (ℕ → ℕ → Bool → Type 0) → (ℕ → ℕ → Bool) → Type 0
AnswersAs answers o = (x y : ℕ) (r : Bool) → answers x y r → r ≡ o x y

-- where the first of the best counts stands, 0 in an empty row; the count x is better than the count y where o x y
unfoldable pub first_best : (ℕ → ℕ → Bool) → List ℕ → ℕ
first_best o [] = 0
first_best o (x ∷ []) = 0
first_best o (x ∷ y ∷ ys) = let r = first_best o (y ∷ ys) in if o (slice_index (y ∷ ys) r) x then suc r else 0
