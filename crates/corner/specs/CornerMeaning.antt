-- That the corner carrier has the meaning of a carrier. Assumes nothing.
use Rattle.std.specs.Prelude.{◌≡◌, ℕ, ◌<◌, min, List, map, length, ℤ, pos, ◌+ℤ◌, ◌≢◌, slice_index, slice_index_or, unsigned_abs}
use Rattle.std.proofs.Common.{sym, subst, ◌∙◌, arith}
use Rattle.std.proofs.Math.Path.{ap}
use Rattle.std.specs.List.{range_with_len}
use Rattle.std.proofs.lemmas.List.FromFn.{length-map-range_with_len, get_or-map-range_with_len}
use Rattle.std.proofs.lemmas.Int.{ints}
use Rattle.carrier.specs.Blanked.{blanked, NoneOf, length-blanked, get_or-blanked, blanked_with}
use Rattle.carrier.specs.Meaning.{Site, Meaning, no_site, seat_at, Unseated}
use Rattle.carrier.specs.Plain.{most}
use Rattle.corner.specs.Layout.{places, seat, left, above, diagonal}
use Rattle.corner.specs.Predictor.{predicted}
use Rattle.corner.specs.Corner.{CornerRest, corner_count, corner_seats, prediction, corner_site, corner_code, corner_sites, corner_codes, corner_rest}
use Rattle.corner.specs.Numbering.{seat_below, seats_apart, left_no_seat, above_no_seat, diagonal_no_seat, four_to_a_place}

-- one entry to each place
pub length-corner_seats : (w c : ℕ) (s : List ℕ) → length (corner_seats w c s) ≡ corner_count w c s
unfolding corner_seats
length-corner_seats w c s = length-map-range_with_len (seat w c) 0 (corner_count w c s)

pub corner_seat_at : (w c : ℕ) (s : List ℕ) (i : ℕ) → i < corner_count w c s → slice_index (corner_seats w c s) i ≡ seat w c i
unfolding corner_seats
corner_seat_at w c s i h = get_or-map-range_with_len (seat w c) 0 (corner_count w c s) i i 0 h (omega arith)

pub length-corner_codes : (w c : ℕ) (s : List ℕ) → length (corner_codes w c s) ≡ corner_count w c s
unfolding corner_codes
length-corner_codes w c s = length-map-range_with_len _ 0 (corner_count w c s)

pub corner_code_at : (w c : ℕ) (s : List ℕ) (i : ℕ) (d : ℤ) → i < corner_count w c s → slice_index_or (corner_codes w c s) i d ≡ corner_code (prediction w c s i) (slice_index s (seat w c i))
unfolding corner_codes
corner_code_at w c s i d h = get_or-map-range_with_len _ 0 (corner_count w c s) i i d h (omega arith)

-- the places of a carrier with this rest
abbrev pub count_of : CornerRest → ℕ
count_of r = corner_count r.width r.channels r.others

abbrev pub seat_of : CornerRest → ℕ → ℕ
seat_of r p = seat r.width r.channels p

abbrev pub prediction_of : CornerRest → ℕ → ℕ
prediction_of r p = prediction r.width r.channels r.others p

pub length-corner_sites : (r : CornerRest) → length (corner_sites r) ≡ count_of r
unfolding corner_sites
length-corner_sites r = length-map-range_with_len _ 0 (count_of r)

pub corner_site_at : (r : CornerRest) (i : ℕ) (d : Site) → i < count_of r → slice_index_or (corner_sites r) i d ≡ corner_site r.maximum (prediction_of r i) (seat_of r i)
unfolding corner_sites
corner_site_at r i d h = get_or-map-range_with_len _ 0 (count_of r) i i d h (omega arith)

pub seat_at_corner : (r : CornerRest) (i : ℕ) → i < count_of r → seat_at (corner_sites r) i ≡ seat_of r i
seat_at_corner r i h = ap (λ (p : Site). p.seat) (corner_site_at r i no_site h)

-- the samples that are no seats are as many, and have as many places
module _ (m w c : ℕ) (s : List ℕ) where
  pub length-others : length (corner_rest m w c s).others ≡ length s
  unfolding corner_rest
  length-others = length-blanked (corner_seats w c s) s

  pub count_others : count_of (corner_rest m w c s) ≡ corner_count w c s
  unfolding corner_rest
  count_others = ap (λ n. places w c (min most n)) length-others

  -- a neighbour is no seat
  none_of : (k : ℕ) → ((q : ℕ) → q < corner_count w c s → seat w c q ≢ k) → NoneOf (corner_seats w c s) k
  none_of k free i h e =
      let low : i < corner_count w c s = omega (arith, length-corner_seats w c s) in
      free i low (sym (corner_seat_at w c s i low) ∙ e)

  other : (k : ℕ) → ((q : ℕ) → q < corner_count w c s → seat w c q ≢ k) → slice_index (corner_rest m w c s).others k ≡ slice_index s k
  unfolding corner_rest
  other k free = get_or-blanked (corner_seats w c s) s k (none_of k free)

  -- so predictions follow from the rest
  pub same_prediction : (p : ℕ) → p < corner_count w c s → prediction_of (corner_rest m w c s) p ≡ prediction w c s p
  unfolding corner_rest
  same_prediction p h =
      let a = other (left w c p) (λ q k. left_no_seat w c _ p q h k) in
      let b = other (above w c p) (λ q k. above_no_seat w c _ p q h k) in
      let d = other (diagonal w c p) (λ q k. diagonal_no_seat w c _ p q h k) in
      (λ i. predicted (a i) (b i) (d i))

-- what rest and codes tell of the picture
record Tells (r : CornerRest) (s : List ℕ) (codes : List ℤ) : Type 0 where
  total : length r.others ≡ length s
  hidden : r.others ≡ blanked (corner_seats r.width r.channels r.others) s
  sample : (i : ℕ) → i < count_of r → pos (slice_index s (seat_of r i)) ≡ slice_index_or codes i (pos 0) +ℤ pos (prediction_of r i)

same_seats : (w c : ℕ) (s t : List ℕ) → length s ≡ length t → corner_seats w c s ≡ corner_seats w c t
unfolding corner_seats
same_seats w c s t e = ap (λ n. map (seat w c) (range_with_len 0 (places w c (min most n)))) e

tells : (m w c : ℕ) (s : List ℕ) → Tells (corner_rest m w c s) s (corner_codes w c s)
unfolding corner_rest
tells m w c s =
    record {
      total = length-others m w c s;
      hidden = ap (λ ks. blanked ks s) (same_seats w c s (corner_rest m w c s).others (sym (length-others m w c s)));
      sample = λ i h.
          let low : i < corner_count w c s = subst (λ n. i < n) (count_others m w c s) h in
          let n = same_prediction m w c s i low in
          let code = corner_code_at w c s i (pos 0) low in
          omega (arith, ints, n, code);
    }

-- two pictures of which rest and codes tell the same are the same
same_picture : (r : CornerRest) (s t : List ℕ) (codes : List ℤ) → Tells r s codes → Tells r t codes → s ≡ t
same_picture r s t codes one two =
    blanked_with (corner_seats r.width r.channels r.others) s t (sym one.hidden ∙ two.hidden)
    (λ i h.
    let low : i < count_of r = omega (arith, h, length-corner_seats r.width r.channels r.others) in
    let at = corner_seat_at r.width r.channels r.others i low in
    let level : pos (slice_index s (seat_of r i)) ≡ pos (slice_index t (seat_of r i)) = one.sample i low ∙ sym (two.sample i low) in
    ap (λ k. slice_index s k) at ∙ unpos level ∙ ap (λ k. slice_index t k) (sym at))
  where
    unpos : {m n : ℕ} → pos m ≡ pos n → m ≡ n
    unpos e = ap unsigned_abs e

-- a sample that is no seat stands in the rest
sample_told : (r : CornerRest) (s : List ℕ) (codes : List ℤ) (k : ℕ) → Tells r s codes → Unseated (corner_sites r) k → slice_index s k ≡ slice_index r.others k
sample_told r s codes k told free =
    sym (get_or-blanked (corner_seats r.width r.channels r.others) s k none) ∙ ap (λ l. slice_index l k) (sym told.hidden)
  where
    none : NoneOf (corner_seats r.width r.channels r.others) k
    none i h e =
        let low : i < count_of r = omega (arith, h, length-corner_seats r.width r.channels r.others) in
        free i (omega (arith, low, length-corner_sites r)) (seat_at_corner r i low ∙ sym (corner_seat_at r.width r.channels r.others i low) ∙ e)

-- a place of the carrier, by its number
pub corner_seat : (m w c : ℕ) (s : List ℕ) (i : ℕ) → i < length (corner_codes w c s) → (i < corner_count w c s) × (seat_at (corner_sites (corner_rest m w c s)) i ≡ seat w c i)
unfolding corner_rest
corner_seat m w c s i h =
    let low : i < corner_count w c s = omega (arith, length-corner_codes w c s) in
    (low, seat_at_corner (corner_rest m w c s) i (omega (arith, low, count_others m w c s)))

-- a carrier that is a corner carrier by its maximum, width, channels and samples has the meaning
pub corner_meaning : {S : Type 0} (maximum width channels : S → ℕ) (samples : S → List ℕ) → Meaning (λ s. corner_rest (maximum s) (width s) (channels s) (samples s)) (λ s. corner_codes (width s) (channels s) (samples s)) corner_sites samples
corner_meaning {S = S} maximum width channels samples = record {
  few = λ s. omega (arith, length-corner_codes (width s) (channels s) (samples s), four_to_a_place (width s) (channels s) (min most (length (samples s))));
  paired = λ s. length-corner_sites _ ∙ count_others (maximum s) (width s) (channels s) (samples s) ∙ sym (length-corner_codes (width s) (channels s) (samples s));
  seated = λ s i h.
      let at = corner_seat (maximum s) (width s) (channels s) (samples s) i h in
      omega (arith, at.1, seat_below (width s) (channels s) (min most (length (samples s))) i at.0);
  apart = λ s i j h k e.
      let one = corner_seat (maximum s) (width s) (channels s) (samples s) i h in
      let two = corner_seat (maximum s) (width s) (channels s) (samples s) j k in
      seats_apart (width s) (channels s) (min most (length (samples s))) i j one.0 two.0 (sym one.1 ∙ e ∙ two.1);
  follows = λ s t rest codes.
      same_picture _ (samples s) (samples t) _ (told s)
      (subst (λ cs. Tells (corner_rest (maximum s) (width s) (channels s) (samples s)) (samples t) cs) (sym codes)
      (subst (λ r. Tells r (samples t) (corner_codes (width t) (channels t) (samples t))) (sym rest) (told t)));
  told_length = λ s t e. sym (told s).total ∙ ap (λ r. length r.others) e ∙ (told t).total;
  told = λ s t e k free.
      sample_told _ (samples s) _ k (told s) free ∙ ap (λ r. slice_index r.others k) e ∙ sym (sample_told _ (samples t) _ k (told t) (subst (λ r. Unseated (corner_sites r) k) e free));
}
  where
    told : (s : S) → Tells (corner_rest (maximum s) (width s) (channels s) (samples s)) (samples s) (corner_codes (width s) (channels s) (samples s))
    told s = tells (maximum s) (width s) (channels s) (samples s)
