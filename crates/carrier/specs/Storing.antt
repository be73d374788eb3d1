-- The samples of a picture and how one is changed. Assumes nothing.
use Rattle.std.specs.Prelude.{◌≡◌, ℕ, ◌<◌, Bool, true, false, List, length, ℤ, pos, ◌≤ℤ◌, slice_set, unsigned_abs}

-- there is a sample i, and a sample of at most `widest` can be v
abbrev pub Holds : ℕ → ℕ → ℤ → List ℕ → Type 0
Holds widest i v samples = (i < length samples) × ((pos 0 ≤ℤ v) × (v ≤ℤ pos widest))

-- v was stored as sample i, or that cannot be and nothing changed
abbrev pub Stored : ℕ → ℕ → ℤ → List ℕ → List ℕ → Bool → Type 0
Stored widest i v before after true = Holds widest i v before × (after ≡ slice_set before i (unsigned_abs v))
Stored widest i v before after false = (Holds widest i v before → ⊥) × (after ≡ before)
