-- What the corner carrier says of its places. Assumes nothing.
use Rattle.std.proofs.Common.{◌≡◌, ℕ, ◌<◌, ◌≤◌, min, Bool, true, List, map, length, slice_index, slice_index_or, slice_set, ℤ, pos, ◌-ℤ◌, neg_ℤ, unsigned_abs, sym, ap, ◌∙◌, subst, ⊎_elim, arith}
use Rattle.std.specs.List.{range_with_len}
use Rattle.std.proofs.lemmas.List.{length-set, get_or-set_same, get_or-set_other, ext_get_or}
use Rattle.std.proofs.lemmas.Int.{ints}
use Rattle.std.proofs.lemmas.Bool.{cases_eq}
use Rattle.carrier.specs.Blanked.{blanked, blanked-set}
use Rattle.carrier.specs.declared.interface.Place.{Place}
use Rattle.carrier.specs.Meaning.{Site, Describes, Moves, no_site, site_of, seat_at, takes}
use Rattle.carrier.specs.Plain.{most}
use Rattle.carrier.specs.Storing.{Holds, Stored}
use Rattle.carrier.proofs.Putting.{taken, pos_nat_abs, stored, moved}
use Rattle.corner.specs.declared.Spot.{Spot}
use Rattle.corner.specs.Layout.{places, seat, left, above, diagonal}
use Rattle.corner.specs.Predictor.{predicted}
use Rattle.corner.specs.Corner.{corner_count, corner_seats, prediction, corner_site, corner_code, corner_sites, corner_codes, corner_rest}
use Rattle.corner.specs.CornerMeaning.{length-corner_seats, corner_seat_at, length-corner_codes, corner_code_at, corner_site_at, count_others, same_prediction}
use Rattle.corner.specs.Numbering.{seat_below, seats_apart, left_no_seat, above_no_seat, diagonal_no_seat}
use Rattle.corner.specs.Spots.{Located}
use Rattle.corner.proofs.Locating.{left_before, above_before, diagonal_before}

-- a corner carrier has as many places as there are in the samples that it uses
pub as_many : (n w c : ℕ) (s : List ℕ) → n ≡ corner_count w c s → n ≡ length (corner_codes w c s)
as_many n w c s e = e ∙ sym (length-corner_codes w c s)

pub past : (w c : ℕ) (s : List ℕ) (p : ℕ) → corner_count w c s ≤ p → length (corner_codes w c s) ≤ p
past w c s p h = omega (arith, length-corner_codes w c s)

module _ (w c : ℕ) (s : List ℕ) (p : ℕ) where
  site_at : (m : ℕ) → p < corner_count w c s → slice_index_or (corner_sites (corner_rest m w c s)) p no_site ≡ corner_site m (prediction w c s p) (seat w c p)
  unfolding corner_rest
  site_at m h =
      corner_site_at (corner_rest m w c s) p no_site (omega (arith, count_others m w c s)) ∙ ap (λ n. corner_site m n (seat w c p)) (same_prediction m w c s p h)

  module _ (spot : Spot) (at : Located w c (min most (length s)) p spot) where
    pub seat_in : spot.seat < length s
    seat_in = omega (arith, at.at_seat, seat_below w c (min most (length s)) p at.within)

    pub left_in : spot.left < length s
    left_in = omega (arith, seat_in, at.at_seat, at.at_left, left_before w c (length s) p)

    pub above_in : spot.above < length s
    above_in = omega (arith, seat_in, at.at_seat, at.at_above, above_before w c (length s) p)

    pub diagonal_in : spot.diagonal < length s
    diagonal_in = omega (arith, seat_in, at.at_seat, at.at_diagonal, diagonal_before w c (length s) p)

    -- place p, by its sample v and its prediction n
    pub described : (m v n : ℕ) (q : Place) → n ≡ predicted (slice_index s spot.left) (slice_index s spot.above) (slice_index s spot.diagonal) → v ≡ slice_index s spot.seat → v < 65536 → n < 65536 → m < 65536 → q.code ≡ corner_code n v → site_of q ≡ corner_site m n spot.seat → Describes (corner_sites (corner_rest m w c s)) (corner_codes w c s) p q
    described m v n q predicts reads small-v small_n small-m code site =
        let expected : n ≡ prediction w c s p = predicts ∙ (λ i. predicted (slice_index s (at.at_left i)) (slice_index s (at.at_above i)) (slice_index s (at.at_diagonal i))) in
        let value : v ≡ slice_index s (seat w c p) = reads ∙ ap (λ k. slice_index s k) at.at_seat in
        let low = ap (λ (r : Site). r.low) site in
        let high = ap (λ (r : Site). r.high) site in
        record {
          within = omega (arith, at.within, length-corner_codes w c s);
          code = code ∙ (λ i. corner_code (expected i) (value i)) ∙ sym (corner_code_at w c s p (pos 0) at.within);
          site = site ∙ (λ i. corner_site m (expected i) (at.at_seat i)) ∙ sym (site_at m at.within);
          code_range = (omega (arith, ints, code), omega (arith, ints, code));
          low_range = (omega (arith, ints, low), omega (arith, ints, low));
          high_range = (omega (arith, ints, high), omega (arith, ints, high));
        }

-- a change at a seat changes no prediction
kept_other : (s : List ℕ) (k n j : ℕ) → (k ≡ j → ⊥) → slice_index (slice_set s k n) j ≡ slice_index s j
kept_other s k n j ne = get_or-set_other s k j n 0 (λ e. ne (sym e))

module _ (w c : ℕ) (s : List ℕ) (p n : ℕ) (here : p < corner_count w c s) where
  abbrev t : List ℕ
  t = slice_set s (seat w c p) n

  same_count : corner_count w c t ≡ corner_count w c s
  same_count = ap (λ k. places w c (min most k)) (length-set s (seat w c p) n)

  same_predictions : (q : ℕ) → q < corner_count w c s → prediction w c t q ≡ prediction w c s q
  same_predictions q there =
      let a = kept_other s (seat w c p) n (left w c q) (left_no_seat w c _ q p there here) in
      let b = kept_other s (seat w c p) n (above w c q) (above_no_seat w c _ q p there here) in
      let d = kept_other s (seat w c p) n (diagonal w c q) (diagonal_no_seat w c _ q p there here) in
      (λ i. predicted (a i) (b i) (d i))

  -- only the code of the place whose seat it is changes
  pub codes_set : (v : ℤ) → corner_code (prediction w c s p) n ≡ v → corner_codes w c t ≡ slice_set (corner_codes w c s) p v
  codes_set v new =
      ext_get_or (pos 0) (corner_codes w c t) (slice_set (corner_codes w c s) p v)
      (length-corner_codes w c t ∙ same_count ∙ sym (length-corner_codes w c s) ∙ sym (length-set (corner_codes w c s) p v))
      (λ q h.
      let there : q < corner_count w c s = omega (arith, h, length-corner_codes w c t, same_count) in
      corner_code_at w c t q (pos 0) (omega (arith, there, same_count))
      ∙ ap (λ k. corner_code k (slice_index t (seat w c q))) (same_predictions q there)
      ∙ ⊎_elim
      (λ (e : q ≡ p).
      ap (λ k. corner_code (prediction w c s k) (slice_index t (seat w c k))) e
      ∙ ap (corner_code (prediction w c s p)) (get_or-set_same s (seat w c p) n 0 (omega (arith, seat_below w c (min most (length s)) p here)))
      ∙ new
      ∙ sym (get_or-set_same (corner_codes w c s) p v (pos 0) (omega (arith, here, length-corner_codes w c s)))
      ∙ ap (λ k. slice_index_or (slice_set (corner_codes w c s) p v) k (pos 0)) (sym e))
      (λ (ne : q ≡ p → ⊥).
      ap (corner_code (prediction w c s q)) (kept_other s (seat w c p) n (seat w c q) (λ e. ne (sym (seats_apart w c _ p q here there e))))
      ∙ sym (corner_code_at w c s q (pos 0) there)
      ∙ sym (get_or-set_other (corner_codes w c s) p q v (pos 0) ne))
      (cases_eq q p))

  pub rest_set : (m : ℕ) → corner_rest m w c t ≡ corner_rest m w c s
  unfolding corner_rest corner_seats
  rest_set m =
      ap (λ l. record { maximum = m; width = w; channels = c; others = l })
      (ap (λ k. blanked (map (seat w c) (range_with_len 0 k)) t) same_count
      ∙ ap (λ k. blanked (corner_seats w c s) (slice_set s k n)) (sym (corner_seat_at w c s p here))
      ∙ blanked-set (corner_seats w c s) s p n (omega (arith, here, length-corner_seats w c s)))

-- what storing a value that place i takes does to a corner carrier
module _ (m widest w c : ℕ) (s t : List ℕ) (i : ℕ) (p : Place) (v u : ℤ) (r : Bool) (d : Describes (corner_sites (corner_rest m w c s)) (corner_codes w c s) i p) (fine : takes (site_of p) v ≡ true) (fits : m ≤ widest) (kept : Stored widest p.seat u s t r) (less : u ≡ v -ℤ p.low) where
  here : i < corner_count w c s
  here = omega (arith, d.within, length-corner_codes w c s)

  site : site_of p ≡ corner_site m (prediction w c s i) (seat w c i)
  site = d.site ∙ site_at w c s i m here

  at_seat : p.seat ≡ seat w c i
  at_seat = ap (λ (q : Site). q.seat) site

  low : p.low ≡ neg_ℤ (pos (prediction w c s i))
  low = ap (λ (q : Site). q.low) site

  high : p.high ≡ pos m -ℤ pos (prediction w c s i)
  high = ap (λ (q : Site). q.high) site

  inside : seat w c i < length s
  inside = omega (arith, seat_below w c (min most (length s)) i here)

  now : t ≡ slice_set s (seat w c i) (unsigned_abs (v -ℤ p.low))
  now =
      let bounds = taken (site_of p) v fine in
      let can : Holds widest p.seat (v -ℤ p.low) s = (omega (arith, at_seat, inside), (omega (arith, ints, bounds.0), omega (arith, ints, low, high, bounds.1))) in
      stored widest p.seat (v -ℤ p.low) s t r (subst (λ z. Stored widest p.seat z s t r) less kept) can ∙ ap (λ k. slice_set s k (unsigned_abs (v -ℤ p.low))) at_seat

  value : corner_code (prediction w c s i) (unsigned_abs (v -ℤ p.low)) ≡ v
  value =
      let bounds = taken (site_of p) v fine in
      let whole = pos_nat_abs (v -ℤ p.low) (omega (arith, ints, bounds.0)) in
      omega (arith, ints, whole, low)

  written_codes : corner_codes w c t ≡ slice_set (corner_codes w c s) i v
  written_codes = ap (corner_codes w c) now ∙ codes_set w c s i _ here v value

  written_moves : Moves (corner_sites (corner_rest m w c s)) i (corner_codes w c s) (corner_codes w c t) s t
  written_moves =
      let seated : seat_at (corner_sites (corner_rest m w c s)) i ≡ seat w c i = ap (λ (q : Site). q.seat) (site_at w c s i m here) in
      moved (corner_sites (corner_rest m w c s)) i (corner_codes w c s) s p.low v (corner_codes w c t) t d.within (omega (arith, seated, inside))
      (corner_code_at w c s i (pos 0) here ∙ ap (λ k. corner_code (prediction w c s i) (slice_index s k)) (sym seated) ∙ omega (arith, ints, low))
      written_codes (now ∙ ap (λ k. slice_set s k (unsigned_abs (v -ℤ p.low))) (sym seated)) (taken (site_of p) v fine).0

  pub written : (corner_codes w c t ≡ slice_set (corner_codes w c s) i v) × Moves (corner_sites (corner_rest m w c s)) i (corner_codes w c s) (corner_codes w c t) s t × (corner_rest m w c t ≡ corner_rest m w c s)
  written = (written_codes, written_moves, ap (corner_rest m w c) now ∙ rest_set w c s i _ here m)
