-- What a put through a turn does, by the put below. Assumes nothing.
use Rattle.std.proofs.Common.{◌≡◌, ℕ, ◌<◌, true, if◌then◌else◌, ◌&&◌, nat_lt, List, map, length, slice_index_or, slice_set, ℤ, pos, neg_ℤ, Result, sym, ap, ◌∙◌, subst, arith, w32, SFits}
use mathlib.Core.Bool.{and_comm}
use lib.Signed.{le_z}
use Rattle.std.specs.Int.{saturate_to_bits}
use Rattle.std.proofs.lemmas.List.{map-set}
use Rattle.std.proofs.lemmas.Int.{ints}
use Rattle.std.proofs.lemmas.Bool.{lt-ltb, and_parts}
use Rattle.refusal.specs.declared.Refusal.{Refusal}
use Rattle.carrier.specs.declared.interface.Place.{Place}
use Rattle.carrier.specs.Meaning.{Site, Describes, InRange, Puts, distance, no_site, put_codes, takes}
use Rattle.layer.specs.Over.{raised}
use Rattle.layer.proofs.Putting.{cond_alike}
use Rattle.layer.specs.Turn.{turned_site, turned_sites, turned_codes}
use Rattle.layer.specs.TurnMeaning.{length-turned_codes, turned_code_at, turned_site_at, turned_seat_at}

distance-neg : (a b : ℤ) → distance (neg_ℤ a) (neg_ℤ b) ≡ distance a b
distance-neg a b = grind (arith, ints)

-- w is the value to put below for v
module _ (v w : ℤ) (counter : w ≡ saturate_to_bits 31 (neg_ℤ v)) (fits : SFits w32 v) where
  under : (h : ℤ) → InRange h → le_z (neg_ℤ h) v ≡ le_z w h
  under h r = grind (arith, ints)

  over : (l : ℤ) → InRange l → le_z v (neg_ℤ l) ≡ le_z l w
  over l r = grind (arith, ints)

  -- a place below takes w where the turn's takes v
  takes_same : (s : Site) → InRange s.low → InRange s.high → takes (turned_site s) v ≡ takes s w
  takes_same s low high = rw (under s.high high, over s.low low) (and_comm (le_z w s.high) (le_z s.low w))

  -- what is taken has a counterpart
  back : (s : Site) → InRange s.low → InRange s.high → takes s w ≡ true → neg_ℤ w ≡ v
  back s low high t =
      let (above, below) = and_parts (le_z s.low w) (le_z w s.high) t in
      grind (arith, ints)

module _ (sites : List Site) (codes : List ℤ) (i : ℕ) (at : Place) (there : Describes (turned_sites sites) (turned_codes codes) i at) where
  site_below : turned_site (slice_index_or sites i no_site) ≡ record { low = at.low; high = at.high; seat = at.seat }
  site_below = sym (turned_site_at sites i) ∙ sym there.site

  low_below : InRange (slice_index_or sites i no_site).low
  low_below = let high = ap (λ (q : Site). q.high) site_below in let r = there.high_range in (omega (arith, ints), omega (arith, ints))

  high_below : InRange (slice_index_or sites i no_site).high
  high_below = let low = ap (λ (q : Site). q.low) site_below in let r = there.low_range in (omega (arith, ints), omega (arith, ints))

-- a put of w at place i below is a put of v at place i of the turn
module _ (v w : ℤ) (counter : w ≡ saturate_to_bits 31 (neg_ℤ v)) (fits : SFits w32 v) (height : ℕ) (sites : List Site) (i : ℕ) (codes codes' : List ℤ) (before after : List ℕ) (answer : Result (Unit {0}) Refusal) (at : Place) (there : Describes (turned_sites sites) (turned_codes codes) i at) (puts : Puts height sites i w codes codes' before after answer) where
  here : nat_lt i (length codes) ≡ true
  here = lt-ltb i (length codes) (subst (λ n. i < n) (length-turned_codes codes) there.within)

  here_turned : nat_lt i (length (turned_codes codes)) ≡ true
  here_turned = lt-ltb i (length (turned_codes codes)) there.within

  taken : takes (slice_index_or (turned_sites sites) i no_site) v ≡ takes (slice_index_or sites i no_site) w
  taken =
      ap (λ (s : Site). takes s v) (turned_site_at sites i)
      ∙ takes_same v w counter fits (slice_index_or sites i no_site) (low_below sites codes i at there) (high_below sites codes i at there)

  set_turned : takes (slice_index_or sites i no_site) w ≡ true → turned_codes (slice_set codes i w) ≡ slice_set (turned_codes codes) i v
  unfolding turned_codes
  set_turned t =
      map-set neg_ℤ codes i w
      ∙ ap (λ z. slice_set (map neg_ℤ codes) i z) (back v w counter fits (slice_index_or sites i no_site) (low_below sites codes i at there) (high_below sites codes i at there) t)

  allowed : (nat_lt i (length codes) && takes (slice_index_or sites i no_site) w) ≡ (nat_lt i (length (turned_codes codes)) && takes (slice_index_or (turned_sites sites) i no_site) v)
  allowed = λ j. (here ∙ sym here_turned) j && sym taken j

  codes_turned : turned_codes (put_codes sites codes i w) ≡ put_codes (turned_sites sites) (turned_codes codes) i v
  codes_turned =
      cond_alike turned_codes (nat_lt i (length codes) && takes (slice_index_or sites i no_site) w) (slice_set codes i w) codes (slice_set (turned_codes codes) i v) (λ t. set_turned (and_parts (nat_lt i (length codes)) _ t).1)
      ∙ ap (λ b. if b then slice_set (turned_codes codes) i v else turned_codes codes) allowed

  pub turn_puts : Puts (raised height) (turned_sites sites) i v (turned_codes codes) (turned_codes codes') before after answer
  turn_puts = record {
    says = rw (here_turned, taken, turned_seat_at sites i) (rw here at puts.says);
    code = ap turned_codes puts.code ∙ codes_turned;
    moves = record {
      seat = rw (turned_seat_at sites i, turned_code_at codes' i, turned_code_at codes i) (puts.moves.seat ∙ sym (distance-neg (slice_index_or codes' i (pos 0)) (slice_index_or codes i (pos 0))));
      others = λ k off. puts.moves.others k (λ e. off (e ∙ sym (turned_seat_at sites i)));
    };
  }
