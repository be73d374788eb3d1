-- Each is needed: without it the check leaves its goal open.
use Rattle.std.proofs.Common.{◌≡◌, ℕ, ◌-◌, ◌*◌, ◌/◌, ◌%◌, ◌<◌, ◌≤◌, sym, ap, ◌∙◌, add-mul, one-mul, arith}
use native.Mathlib.Nat.{div-eq_of_lt-le, mod-eq-sub-div-mul}
use Rattle.corner.proofs.Grid.divided.Goals as goal

-- what a quotient leaves is the remainder
remainder_is : (n d q : ℕ) → q * d ≤ n → n - q * d < d → n - q * d ≡ n % d
remainder_is n d q low rest =
    let quotient : n / d ≡ q = div-eq_of_lt-le {k = q} d {m = n} low (omega (arith, add-mul q 1 d, one-mul d)) in
    ap (λ k. n - k * d) (sym quotient) ∙ sym (mod-eq-sub-div-mul n d)

pub returns-then-n-product-clause-remainder : goal.returns-then-n-product-clause-remainder
returns-then-n-product-clause-remainder c =
    remainder_is c.args.n c.from-half.result _ c.if-product-n.true c.if-n-product.true ∙ ap (λ d. c.args.n % d) c.from-half.ensures
