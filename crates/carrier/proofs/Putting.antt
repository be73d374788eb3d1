-- What a put leaves, at places and in the picture. Assumes nothing.
use Rattle.std.proofs.Common.{◌≡◌, ℕ, ◌<◌, Bool, true, false, nat_lt, List, length, slice_index, slice_index_or, slice_set, ℤ, pos, negsuc, ◌+ℤ◌, ◌-ℤ◌, unsigned_abs, ◌≤ℤ◌, Ok, sym, refl, ap, ◌∙◌, arith, w32, SFits, to_z, of_z}
use Rattle.std.proofs.lemmas.List.{get_or-set_same, get_or-set_other}
use Rattle.std.proofs.lemmas.Int.{ints, to_z-of_z}
use Rattle.std.proofs.lemmas.Bool.{lt-ltb}
use Rattle.refusal.specs.Answers.{accepted}
use Rattle.carrier.specs.declared.interface.Place.{Place}
use Rattle.carrier.specs.Meaning.{Site, InRange, Describes, Moves, Puts, distance, no_site, seat_at, site_of, takes, put_answer, put_codes}
use Rattle.carrier.specs.Storing.{Holds, Stored}

pub distance_self : (a : ℤ) → distance a a ≡ 0
distance_self (pos n) = omega (arith, ints)
distance_self (negsuc n) = omega (arith, ints)

-- where nothing changes, nothing moves
pub stays : (sites : List Site) (i : ℕ) (codes : List ℤ) (picture : List ℕ) → Moves sites i codes codes picture picture
stays sites i codes picture =
    record {
      seat = distance_self (pos (slice_index picture (seat_at sites i))) ∙ sym (distance_self (slice_index_or codes i (pos 0)));
      others = λ k h. refl;
    }

-- a value that a place takes is from low to high
pub taken : (s : Site) (v : ℤ) → takes s v ≡ true → (s.low ≤ℤ v) × (v ≤ℤ s.high)
taken s v h = (grind (arith, ints), grind (arith, ints))

-- a number that is no less than 0 is its magnitude
pub pos_nat_abs : (z : ℤ) → pos 0 ≤ℤ z → pos (unsigned_abs z) ≡ z
pos_nat_abs (pos n) h = refl
pos_nat_abs (negsuc n) h = grind (arith, ints)

-- the machine's difference of a value that a place takes and its low is their difference
pub less_low : (p : Place) (v : ℤ) → SFits w32 v → InRange p.low → InRange p.high → takes (site_of p) v ≡ true → to_z w32 (of_z w32 (to_z w32 (of_z w32 v) -ℤ to_z w32 (of_z w32 p.low))) ≡ v -ℤ p.low
less_low p v fits low high fine =
    let bounds = taken (site_of p) v fine in
    let small : SFits w32 p.low = omega (arith, ints, low.0, low.1) in
    let one : to_z w32 (of_z w32 v) ≡ v = to_z-of_z w32 v fits in
    let two : to_z w32 (of_z w32 p.low) ≡ p.low = to_z-of_z w32 p.low small in
    (λ i. to_z w32 (of_z w32 (one i -ℤ two i))) ∙ to_z-of_z w32 (v -ℤ p.low) (omega (arith, ints, low.0, low.1, high.1, bounds.0, bounds.1))

-- what can be stored is stored
pub stored : (widest i : ℕ) (v : ℤ) (before after : List ℕ) (r : Bool) → Stored widest i v before after r → Holds widest i v before → after ≡ slice_set before i (unsigned_abs v)
stored widest i v before after true s h = s.1
stored widest i v before after false s h = absurd (s.0 h)

module _ (sites : List Site) (i : ℕ) (codes : List ℤ) (before : List ℕ) (low v : ℤ) where
  -- where a code is its sample and low together, the code and its sample change together
  pub moved : (codes' : List ℤ) (after : List ℕ) → i < length codes → seat_at sites i < length before → slice_index_or codes i (pos 0) ≡ pos (slice_index before (seat_at sites i)) +ℤ low → codes' ≡ slice_set codes i v → after ≡ slice_set before (seat_at sites i) (unsigned_abs (v -ℤ low)) → low ≤ℤ v → Moves sites i codes codes' before after
  moved codes' after here there code put kept least =
      let now : pos (slice_index after (seat_at sites i)) ≡ v -ℤ low = ap (λ l. pos (slice_index l (seat_at sites i))) kept ∙ ap pos (get_or-set_same before (seat_at sites i) (unsigned_abs (v -ℤ low)) 0 there) ∙ pos_nat_abs (v -ℤ low) (omega (arith, ints)) in
      let next : slice_index_or codes' i (pos 0) ≡ v = ap (λ l. slice_index_or l i (pos 0)) put ∙ get_or-set_same codes i v (pos 0) here in
      let far : pos (slice_index after (seat_at sites i)) -ℤ pos (slice_index before (seat_at sites i)) ≡ slice_index_or codes' i (pos 0) -ℤ slice_index_or codes i (pos 0) = omega (arith, ints) in
      record {
        seat = ap unsigned_abs far;
        others = λ k other. ap (λ l. slice_index l k) kept ∙ get_or-set_other before (seat_at sites i) k (unsigned_abs (v -ℤ low)) 0 other;
      }

-- a place that takes v is put, and says so
module _ (level : ℕ) (sites : List Site) (codes : List ℤ) (i : ℕ) (p : Place) (v : ℤ) (d : Describes sites codes i p) (fine : takes (site_of p) v ≡ true) where
  there : nat_lt i (length codes) ≡ true
  there = lt-ltb i (length codes) d.within

  fits : takes (slice_index_or sites i no_site) v ≡ true
  fits = ap (λ s. takes s v) (sym d.site) ∙ fine

  pub accepts : accepted tt ≡ put_answer level sites codes i v
  accepts = rw (there, fits)

  pub puts_code : put_codes sites codes i v ≡ slice_set codes i v
  puts_code = rw (there, fits)

  pub done : (codes' : List ℤ) (before after : List ℕ) → codes' ≡ slice_set codes i v → Moves sites i codes codes' before after → Puts level sites i v codes codes' before after (Ok tt)
  done codes' before after put moves = record { says = accepts; code = put ∙ sym puts_code; moves = moves }
