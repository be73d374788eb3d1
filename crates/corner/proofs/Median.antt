-- The median edge predictor predicts a median. Assumes nothing.
use Rattle.std.proofs.Common.{◌≡◌, ℕ, ◌+◌, ◌-◌, ◌<◌, ◌≤◌, min, max, ◌⊎◌, ℤ, pos, ◌+ℤ◌, ◌-ℤ◌, ◌≤ℤ◌, ap, inl, inr, ⊎_elim, arith}
use Rattle.std.proofs.lemmas.Int.{ints}
use Rattle.std.proofs.lemmas.Bool.{cases_lt}
use Rattle.std.proofs.lemmas.Bool.Decides.{nat_tests}
use Rattle.corner.specs.Predictor.{predicted, at_most, IsMedian}

-- the three cases of the predictor
by_cases : (a b d : ℕ) → ((max a b ≤ d) × (predicted a b d ≡ min a b)) ⊎ (((d < max a b) × (d ≤ min a b) × (predicted a b d ≡ max a b)) ⊎ ((d < max a b) × (min a b < d) × (predicted a b d ≡ a + b - d)))
by_cases a b d = grind (arith, nat_tests)

yes : (x y : ℤ) → x ≤ℤ y → at_most x y ≡ 1
yes x y h = grind (arith, ints)

-- the middle of three numbers in their order
between : (x y z m : ℤ) → (m ≡ x) ⊎ ((m ≡ y) ⊎ (m ≡ z)) → ((x ≤ℤ m) × (y ≤ℤ m)) ⊎ (((x ≤ℤ m) × (z ≤ℤ m)) ⊎ ((y ≤ℤ m) × (z ≤ℤ m))) → ((m ≤ℤ x) × (m ≤ℤ y)) ⊎ (((m ≤ℤ x) × (m ≤ℤ z)) ⊎ ((m ≤ℤ y) × (m ≤ℤ z))) → IsMedian x y z m
between x y z m one low high =
    record {
      one = one;
      below = ⊎_elim (λ h. omega (arith, yes x m h.0, yes y m h.1)) (⊎_elim (λ h. omega (arith, yes x m h.0, yes z m h.1)) (λ h. omega (arith, yes y m h.0, yes z m h.1))) low;
      above = ⊎_elim (λ h. omega (arith, yes m x h.0, yes m y h.1)) (⊎_elim (λ h. omega (arith, yes m x h.0, yes m z h.1)) (λ h. omega (arith, yes m y h.0, yes m z h.1))) high;
    }

pub median : (a b d r : ℕ) → r ≡ predicted a b d → IsMedian (pos a) (pos b) (pos a +ℤ pos b -ℤ pos d) (pos r)
median a b d r e =
    let t = pos a +ℤ pos b -ℤ pos d in
    let at : ((one : (pos r ≡ pos a) ⊎ ((pos r ≡ pos b) ⊎ (pos r ≡ t))) → ((pos a ≤ℤ pos r) × (pos b ≤ℤ pos r)) ⊎ (((pos a ≤ℤ pos r) × (t ≤ℤ pos r)) ⊎ ((pos b ≤ℤ pos r) × (t ≤ℤ pos r))) → ((pos r ≤ℤ pos a) × (pos r ≤ℤ pos b)) ⊎ (((pos r ≤ℤ pos a) × (pos r ≤ℤ t)) ⊎ ((pos r ≤ℤ pos b) × (pos r ≤ℤ t))) → IsMedian (pos a) (pos b) t (pos r)) = between (pos a) (pos b) t (pos r) in
    ⊎_elim
    (λ (le : a < b).
    ⊎_elim
    (λ h. at (inl (ap pos (omega (arith, h.1)))) (inr (inl (omega (arith, ints, h.1), omega (arith, ints, h.0, h.1)))) (inl (omega (arith, ints, h.1), omega (arith, ints, h.1))))
    (⊎_elim
    (λ h. at (inr (inl (ap pos (omega (arith, h.2))))) (inl (omega (arith, ints, h.2), omega (arith, ints, h.2))) (inr (inr (omega (arith, ints, h.2), omega (arith, ints, h.1, h.2)))))
    (λ h. at (inr (inr (omega (arith, ints, h.0, h.1, h.2)))) (inr (inl (omega (arith, ints, h.0, h.1, h.2), omega (arith, ints, h.0, h.1, h.2)))) (inr (inr (omega (arith, ints, h.0, h.1, h.2), omega (arith, ints, h.0, h.1, h.2))))))
    (by_cases a b d))
    (λ (ge : b ≤ a).
    ⊎_elim
    (λ h. at (inr (inl (ap pos (omega (arith, h.1))))) (inr (inr (omega (arith, ints, h.1), omega (arith, ints, h.0, h.1)))) (inl (omega (arith, ints, h.1), omega (arith, ints, h.1))))
    (⊎_elim
    (λ h. at (inl (ap pos (omega (arith, h.2)))) (inl (omega (arith, ints, h.2), omega (arith, ints, h.2))) (inr (inl (omega (arith, ints, h.2), omega (arith, ints, h.1, h.2)))))
    (λ h. at (inr (inr (omega (arith, ints, h.0, h.1, h.2)))) (inr (inr (omega (arith, ints, h.0, h.1, h.2), omega (arith, ints, h.0, h.1, h.2)))) (inr (inl (omega (arith, ints, h.0, h.1, h.2), omega (arith, ints, h.0, h.1, h.2))))))
    (by_cases a b d))
    (cases_lt a b)
