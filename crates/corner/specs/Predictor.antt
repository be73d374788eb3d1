-- The median edge predictor. Assumes nothing.
use Rattle.std.specs.Prelude.{◌≡◌, ℕ, ◌+◌, ◌-◌, ◌≤◌, min, max, if◌then◌else◌, ◌⊎◌, ℤ, int_le, nat_le}

-- the prediction for a sample from a, the one to its left, b, the one above, and d, the one above left: the smaller of
-- a and b if d is at least both, the larger if d is at most both, and else a + b - d
abbrev pub predicted : ℕ → ℕ → ℕ → ℕ
predicted a b d = if nat_le (max a b) d then min a b else if nat_le d (min a b) then max a b else a + b - d

-- 1 if x is at most y, else 0
abbrev pub at_most : ℤ → ℤ → ℕ
at_most x y = if int_le x y then 1 else 0

-- m is the median of three numbers: it is one of them, at least two are at most m, and at least two are at least m
pub record IsMedian (x y z m : ℤ) : Type 0 where
  pub one : (m ≡ x) ⊎ ((m ≡ y) ⊎ (m ≡ z))
  pub below : 2 ≤ at_most x m + at_most y m + at_most z m
  pub above : 2 ≤ at_most m x + at_most m y + at_most m z
