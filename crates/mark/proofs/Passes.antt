-- A pass over a carrier that counts: what is counted so far and what is left make up the whole. Assumes nothing.
use Rattle.std.proofs.Common.{if◌then◌else◌, ◌≡◌, ℕ, ◌+◌, ◌<◌, ◌≤◌, Bool, true, false, ◌||◌, List, length, drop, ℤ, pos, Some, sym, refl, ap, ◌∙◌, add-zero, add_assoc, zero-add, arith}
use mir.Val.{bool_byte}
use Rattle.std.proofs.Math.Bool.{or_assoc, or-false}
use Rattle.std.proofs.lemmas.List.{drop_more, drop_all}
use Rattle.carrier.specs.declared.interface.Place.{Place}
use Rattle.carrier.specs.Meaning.{Site, Describes, GivesPlace, no_site, site_of}
use Rattle.mark.specs.Rows.{places_with, some_with}

module _ (test : Site → ℤ → Bool) (sites : List Site) (codes : List ℤ) (paired : length sites ≡ length codes) (i : ℕ) where
  -- the places from i on, by the first of them
  pub count_more : (p : Place) → Describes sites codes i p → places_with test (drop i sites) (drop i codes) ≡ (if test (site_of p) p.code then 1 else 0) + places_with test (drop (i + 1) sites) (drop (i + 1) codes)
  count_more p d =
      let here : i < length codes = d.within in
      let there : i < length sites = omega arith in
      rw (drop_more sites i no_site there, drop_more codes i (pos 0) here, d.site, d.code)

  pub some_more : (p : Place) → Describes sites codes i p → some_with test (drop i sites) (drop i codes) ≡ (test (site_of p) p.code || some_with test (drop (i + 1) sites) (drop (i + 1) codes))
  some_more p d =
      let here : i < length codes = d.within in
      let there : i < length sites = omega arith in
      rw (drop_more sites i no_site there, drop_more codes i (pos 0) here, d.site, d.code)

  pub count_all : length codes ≤ i → places_with test (drop i sites) (drop i codes) ≡ 0
  count_all h = rw (drop_all i sites (omega arith))

  pub some_all : length codes ≤ i → some_with test (drop i sites) (drop i codes) ≡ false
  some_all h = rw (drop_all i sites (omega arith))

-- n places of the first i pass the test
pub record Counted (test : Site → ℤ → Bool) (sites : List Site) (codes : List ℤ) (i n : ℕ) : Type 0 where
  pub left : n + places_with test (drop i sites) (drop i codes) ≡ places_with test sites codes
  pub few : n ≤ i

-- t says whether one of the first i places passes the test
pub record Found (test : Site → ℤ → Bool) (sites : List Site) (codes : List ℤ) (i : ℕ) (t : Bool) : Type 0 where
  pub left : (t || some_with test (drop i sites) (drop i codes)) ≡ some_with test sites codes

one_at_most : (b : Bool) → (if b then 1 else 0) ≤ 1
one_at_most true = omega arith
one_at_most false = omega arith

-- what a flag adds to a count
pub flag_added : (n k : ℕ) (b t : Bool) → k ≡ bool_byte b → b ≡ t → n + k ≡ n + (if t then 1 else 0)
flag_added n k b t e f = ap (λ m. n + m) (e ∙ as_cond b ∙ ap (λ u. if u then 1 else 0) f)
  where
    as_cond : (u : Bool) → bool_byte u ≡ (if u then 1 else 0)
    as_cond true = refl
    as_cond false = refl

module _ (test : Site → ℤ → Bool) (sites : List Site) (codes : List ℤ) where
  pub counted_none : Counted test sites codes 0 0
  counted_none = record { left = zero-add (places_with test sites codes); few = omega arith }

  pub found_none : Found test sites codes 0 false
  found_none = record { left = refl }

  module _ (paired : length sites ≡ length codes) (i : ℕ) where
    pub counted_more : (j n m : ℕ) (p : Place) → GivesPlace sites codes i j (Some p) → m ≡ n + (if test (site_of p) p.code then 1 else 0) → Counted test sites codes i n → Counted test sites codes j m
    counted_more j n m p step e h =
        record {
          left = rw step.1 (ap (λ t. t + places_with test (drop (i + 1) sites) (drop (i + 1) codes)) e ∙ add_assoc n _ _ ∙ ap (λ t. n + t) (sym (count_more test sites codes paired i p step.0)) ∙ h.left);
          few = omega (arith, step.1, one_at_most (test (site_of p) p.code), h.few);
        }

    -- the same where a flag is added as a number
    pub counted_flag : (j n k : ℕ) (p : Place) (b : Bool) → GivesPlace sites codes i j (Some p) → b ≡ test (site_of p) p.code → k ≡ bool_byte b → Counted test sites codes i n → Counted test sites codes j (n + k)
    counted_flag j n k p b step e f h = counted_more j n (n + k) p step (flag_added n k b _ f e) h

    pub found_more : (j : ℕ) (t : Bool) (p : Place) (b : Bool) → GivesPlace sites codes i j (Some p) → b ≡ test (site_of p) p.code → Found test sites codes i t → Found test sites codes j (t || b)
    found_more j t p b step e h =
        record {
          left = rw step.1 (or_assoc t b _ ∙ ap (λ u. t || (u || some_with test (drop (i + 1) sites) (drop (i + 1) codes))) e ∙ ap (λ u. t || u) (sym (some_more test sites codes paired i p step.0)) ∙ h.left);
        }

    pub counted_all : (n : ℕ) → length codes ≤ i → Counted test sites codes i n → n ≡ places_with test sites codes
    counted_all n e h = sym (add-zero n) ∙ ap (λ m. n + m) (sym (count_all test sites codes paired i e)) ∙ h.left

    pub found_all : (t : Bool) → length codes ≤ i → Found test sites codes i t → t ≡ some_with test sites codes
    found_all t e h = sym (or-false t) ∙ ap (λ u. t || u) (sym (some_all test sites codes paired i e)) ∙ h.left
