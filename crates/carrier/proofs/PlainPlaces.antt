-- What the plain carrier says of its places. Assumes nothing.
use Rattle.std.proofs.Common.{◌≡◌, ℕ, ◌<◌, ◌≤◌, min, Bool, true, List, map, length, slice_index, slice_index_or, take, slice_set, ℤ, pos, ◌-ℤ◌, unsigned_abs, sym, ap, ◌∙◌, subst, arith}
use lib.Seq.{take-set-lt}
use Rattle.std.proofs.lemmas.List.{get_or-map, get_or-take, length-take, length-set, map-set, drop-set-lt}
use Rattle.std.proofs.lemmas.Int.{ints}
use Rattle.carrier.specs.declared.interface.Place.{Place}
use Rattle.carrier.specs.Meaning.{Site, Describes, Moves, no_site, site_of, seat_at, takes}
use Rattle.carrier.specs.Storing.{Holds, Stored}
use Rattle.carrier.proofs.Putting.{taken, pos_nat_abs, stored, moved}
use Rattle.carrier.specs.Plain.{most, plain_codes, plain_rest, plain_site, plain_sites}
use Rattle.carrier.specs.PlainMeaning.{length-plain_codes, plain_site_at}

-- a plain carrier has as many places as samples that it uses
pub as_many : (n : ℕ) (s : List ℕ) → n ≡ min most (length s) → n ≡ length (plain_codes s)
as_many n s e = e ∙ sym (length-plain_codes s)

module _ (s : List ℕ) (i : ℕ) where
  pub within : i < most → i < length s → i < length (plain_codes s)
  within h k = omega (arith, length-plain_codes s)

  pub past_limit : most ≤ i → length (plain_codes s) ≤ i
  past_limit h = omega (arith, length-plain_codes s)

  pub past_end : length s ≤ i → length (plain_codes s) ≤ i
  past_end h = omega (arith, length-plain_codes s)

  code_at : i < most → i < length s → slice_index_or (plain_codes s) i (pos 0) ≡ pos (slice_index s i)
  unfolding plain_codes
  code_at h k =
      let here : i < length (take most s) = omega (arith, length-take most s) in
      get_or-map pos (take most s) i 0 (pos 0) here ∙ ap pos (get_or-take most s i 0 h)

  site_at : (m : ℕ) → i < most → i < length s → slice_index_or (plain_sites (plain_rest m s)) i no_site ≡ plain_site m i
  unfolding plain_rest
  site_at m h k = plain_site_at (plain_rest m s) i no_site (omega arith)

  -- place i of a plain carrier, by the sample v there
  pub described : (m v : ℕ) (p : Place) → i < most → i < length s → v ≡ slice_index s i → v < 65536 → m < 65536 → p.code ≡ pos v → site_of p ≡ plain_site m i → Describes (plain_sites (plain_rest m s)) (plain_codes s) i p
  described m v p h k read small bounded code site =
      let low = ap (λ (q : Site). q.low) site in
      let high = ap (λ (q : Site). q.high) site in
      record {
        within = within h k;
        code = code ∙ ap pos read ∙ sym (code_at h k);
        site = site ∙ sym (site_at m h k);
        code_range = omega (arith, ints);
        low_range = omega (arith, ints);
        high_range = omega (arith, ints);
      }

-- a sample that is a place's seat can change, and the rest does not
rest_set : (m : ℕ) (s : List ℕ) (i n : ℕ) → i < most → plain_rest m (slice_set s i n) ≡ plain_rest m s
unfolding plain_rest
rest_set m s i n h = rw (length-set s i n, drop-set-lt most s i n h)

codes_set : (s : List ℕ) (i n : ℕ) → i < most → plain_codes (slice_set s i n) ≡ slice_set (plain_codes s) i (pos n)
unfolding plain_codes
codes_set s i n h = ap (map pos) (take-set-lt most s i n h) ∙ map-set pos (take most s) i n

-- what storing a value that place i takes does to a plain carrier
module _ (m widest : ℕ) (s t : List ℕ) (i : ℕ) (p : Place) (v w : ℤ) (r : Bool) (d : Describes (plain_sites (plain_rest m s)) (plain_codes s) i p) (fine : takes (site_of p) v ≡ true) (fits : m ≤ widest) (kept : Stored widest p.seat w s t r) (less : w ≡ v -ℤ p.low) where
  few : i < most
  few = omega (arith, d.within, length-plain_codes s)

  there : i < length s
  there = omega (arith, d.within, length-plain_codes s)

  site : site_of p ≡ plain_site m i
  site = d.site ∙ site_at s i m few there

  seat : p.seat ≡ i
  seat = ap (λ (q : Site). q.seat) site

  low : p.low ≡ pos 0
  low = ap (λ (q : Site). q.low) site

  high : p.high ≡ pos m
  high = ap (λ (q : Site). q.high) site

  now : t ≡ slice_set s i (unsigned_abs (v -ℤ p.low))
  now =
      let bounds = taken (site_of p) v fine in
      let can : Holds widest p.seat (v -ℤ p.low) s = (omega (arith, seat, there), (omega (arith, ints, low, bounds.0), omega (arith, ints, low, high, bounds.1))) in
      stored widest p.seat (v -ℤ p.low) s t r (subst (λ u. Stored widest p.seat u s t r) less kept) can ∙ ap (λ k. slice_set s k (unsigned_abs (v -ℤ p.low))) seat

  value : pos (unsigned_abs (v -ℤ p.low)) ≡ v
  value =
      let bounds = taken (site_of p) v fine in
      pos_nat_abs (v -ℤ p.low) (omega (arith, ints, low, bounds.0)) ∙ omega (arith, ints, low)

  written_rest : plain_rest m t ≡ plain_rest m s
  written_rest = ap (plain_rest m) now ∙ rest_set m s i _ few

  written_codes : plain_codes t ≡ slice_set (plain_codes s) i v
  written_codes = ap plain_codes now ∙ codes_set s i _ few ∙ ap (slice_set (plain_codes s) i) value

  written_moves : Moves (plain_sites (plain_rest m s)) i (plain_codes s) (plain_codes t) s t
  written_moves =
      let at_seat : seat_at (plain_sites (plain_rest m s)) i ≡ i = ap (λ (q : Site). q.seat) (site_at s i m few there) in
      moved (plain_sites (plain_rest m s)) i (plain_codes s) s p.low v (plain_codes t) t d.within (omega (arith, at_seat, there))
      (code_at s i few there ∙ ap (λ k. pos (slice_index s k)) (sym at_seat) ∙ omega (arith, ints, low))
      written_codes (now ∙ ap (λ k. slice_set s k (unsigned_abs (v -ℤ p.low))) (sym at_seat)) (taken (site_of p) v fine).0

  pub written : (plain_codes t ≡ slice_set (plain_codes s) i v) × Moves (plain_sites (plain_rest m s)) i (plain_codes s) (plain_codes t) s t × (plain_rest m t ≡ plain_rest m s)
  written = (written_codes, written_moves, written_rest)
