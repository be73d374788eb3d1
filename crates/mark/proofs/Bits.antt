-- What the tactics do not find alone of `==` between signed numbers, which compares their bits. Assumes nothing.
use Rattle.std.proofs.Common.{◌≡◌, zero, suc, nat_eq, ℤ, pos, negsuc, ◌+ℤ◌, ◌≤ℤ◌, ◌∙◌, ap, arith, w32, SFits, to_z, of_z}
use Rattle.std.proofs.lemmas.Int.{ints, to_z-of_z}
use Rattle.std.proofs.lemmas.Bool.Decides.{nat_tests}
use Rattle.mark.specs.Places.{same}

pub same_bits : (a b : ℤ) → SFits w32 a → SFits w32 b → nat_eq (of_z w32 a) (of_z w32 b) ≡ same a b
same_bits (pos m) (pos n) f g = grind (arith, nat_tests)
same_bits (pos m) (negsuc n) f g = grind (arith, nat_tests)
same_bits (negsuc m) (pos n) f g = grind (arith, nat_tests)
same_bits (negsuc m) (negsuc n) f g = grind (arith, nat_tests)

pub next_fits : (z : ℤ) → SFits w32 z → z ≤ℤ pos 65535 → SFits w32 (z +ℤ pos 1)
next_fits (pos n) f h = omega (arith, ints)
next_fits (negsuc zero) f h = record { sfits = omega arith }
next_fits (negsuc (suc n)) f h = omega (arith, ints)

-- a flat and its top, one apart
pub next_same : (a b : ℤ) → SFits w32 a → a ≤ℤ pos 65535 → SFits w32 b → nat_eq (of_z w32 (to_z w32 (of_z w32 a) +ℤ pos 1)) (of_z w32 b) ≡ same (a +ℤ pos 1) b
next_same a b f h g =
    ap (λ z. nat_eq (of_z w32 (z +ℤ pos 1)) (of_z w32 b)) (to_z-of_z w32 a f) ∙ same_bits (a +ℤ pos 1) b (next_fits a f h) g
