-- The chosen pair is the peak and the zero that the tally's words name. Assumes nothing.
use Rattle.std.proofs.Common.{◌≡◌, ℕ, suc, ◌+◌, ◌-◌, ◌*◌, ◌<◌, ◌≤◌, List, length, slice_index, take, drop, ℤ, pos, negsuc, neg_ℤ, ◌≤ℤ◌, ap, ◌∙◌, subst, arith}
use Rattle.std.specs.Prelude.{nat_lt}
use Rattle.std.specs.List.{IsFirstBest}
use Rattle.std.proofs.lemmas.List.FromFn.{length-map-range_with_len, get_or-map-range_with_len}
use Rattle.std.proofs.lemmas.List.{get_or-take, get_or-drop, length-take, length-drop}
use Rattle.std.proofs.lemmas.Int.{ints}
use Rattle.std.proofs.lemmas.Bool.{ltb-true, ltb-false}
use Rattle.carrier.specs.Meaning.{Site}
use Rattle.tally.specs.Tally.{occurs, tallied, tally, first_best}
use Rattle.tally.specs.Choice.{peak_at, zero_at, peak_of, zero_of, IsPeak, IsZero}
use Rattle.tally.proofs.Best.{greater, less, first_best_in}

-- each code from -reach on has a place in the tally
code_place : (reach : ℕ) (c : ℤ) → neg_ℤ (pos reach) ≤ℤ c → (k : ℕ) × (tallied reach k ≡ c)
code_place reach (pos n) h = (n + reach, omega (arith, ints))
code_place reach (negsuc n) h = (reach - suc n, omega (arith, ints))

module _ (reach : ℕ) (some : 0 < reach) (sites : List Site) (codes : List ℤ) where
  length-tally : length (tally reach sites codes) ≡ 2 * reach + 1
  unfolding tally
  length-tally = length-map-range_with_len (λ k. occurs sites codes (tallied reach k)) 0 (2 * reach + 1)

  tally_at : (k : ℕ) → k < 2 * reach + 1 → slice_index (tally reach sites codes) k ≡ occurs sites codes (tallied reach k)
  unfolding tally
  tally_at k h = get_or-map-range_with_len (λ j. occurs sites codes (tallied reach j)) 0 (2 * reach + 1) k k 0 h (omega arith)

  -- the peak is the first best of all but the last count
  peak_first : IsFirstBest (λ x y. nat_lt y x) (take (2 * reach) (tally reach sites codes)) (2 * reach) (peak_at reach (tally reach sites codes))
  peak_first = first_best_in _ greater _ _ (omega (arith, length-take (2 * reach) (tally reach sites codes), length-tally)) (omega arith)

  pub peak_within : peak_at reach (tally reach sites codes) < 2 * reach
  peak_within = peak_first.0

  front_at : (k : ℕ) → k < 2 * reach → slice_index (take (2 * reach) (tally reach sites codes)) k ≡ occurs sites codes (tallied reach k)
  front_at k h = get_or-take (2 * reach) (tally reach sites codes) k 0 h ∙ tally_at k (omega arith)

  pub is_peak_code : IsPeak reach sites codes (tallied reach (peak_at reach (tally reach sites codes)))
  is_peak_code =
      let b = peak_at reach (tally reach sites codes) in
      let low = peak_within in
      record {
        low = omega (arith, ints);
        high = omega (arith, ints);
        most = λ c l h.
            let (k, e) = code_place reach c l in
            let inside : k < 2 * reach = omega (arith, ints, e) in
            let le = ltb-false _ _ (peak_first.1 k 0 inside) in
            subst (λ z. occurs sites codes z ≤ occurs sites codes (tallied reach b)) e (omega (arith, le, front_at k inside, front_at b low));
        first = λ c l h.
            let (k, e) = code_place reach c l in
            let before : k < b = omega (arith, ints, e) in
            let lt = ltb-true _ _ (peak_first.2 k 0 before) in
            subst (λ z. occurs sites codes z < occurs sites codes (tallied reach b)) e (omega (arith, lt, front_at k (omega arith), front_at b low));
      }

  -- the zero is the first best of the counts after the peak
  module _ (b : ℕ) (low : b < 2 * reach) where
    zero_first : IsFirstBest (λ x y. nat_lt x y) (drop (suc b) (tally reach sites codes)) (2 * reach - b) (first_best (λ x y. nat_lt x y) (drop (suc b) (tally reach sites codes)))
    zero_first = first_best_in _ less _ _ (omega (arith, length-drop (suc b) (tally reach sites codes), length-tally)) (omega arith)

    back_at : (j : ℕ) → j < 2 * reach - b → slice_index (drop (suc b) (tally reach sites codes)) j ≡ occurs sites codes (tallied reach (suc b + j))
    back_at j h = get_or-drop (suc b) (tally reach sites codes) j 0 ∙ tally_at (suc b + j) (omega arith)

    zero_after : IsZero reach sites codes (tallied reach b) (tallied reach (suc b + first_best (λ x y. nat_lt x y) (drop (suc b) (tally reach sites codes))))
    zero_after =
        let r = first_best (λ x y. nat_lt x y) (drop (suc b) (tally reach sites codes)) in
        let in' : r < 2 * reach - b = zero_first.0 in
        record {
          low = omega (arith, ints);
          high = omega (arith, ints);
          least = λ c l h.
              let (k, e) = code_place reach c (omega (arith, ints)) in
              let above : b < k = omega (arith, ints, e) in
              let inside : k - suc b < 2 * reach - b = omega (arith, ints, e) in
              let le = ltb-false _ _ (zero_first.1 (k - suc b) 0 inside) in
              let same : suc b + (k - suc b) ≡ k = omega arith in
              subst (λ z. occurs sites codes (tallied reach (suc b + r)) ≤ occurs sites codes z) (ap (tallied reach) same ∙ e) (omega (arith, le, back_at (k - suc b) inside, back_at r in'));
          first = λ c l h.
              let (k, e) = code_place reach c (omega (arith, ints)) in
              let above : b < k = omega (arith, ints, e) in
              let before : k - suc b < r = omega (arith, ints, e) in
              let lt = ltb-true _ _ (zero_first.2 (k - suc b) 0 before) in
              let same : suc b + (k - suc b) ≡ k = omega arith in
              subst (λ z. occurs sites codes (tallied reach (suc b + r)) < occurs sites codes z) (ap (tallied reach) same ∙ e) (omega (arith, lt, back_at (k - suc b) (omega arith), back_at r in'));
        }

  is_zero_code : IsZero reach sites codes (tallied reach (peak_at reach (tally reach sites codes))) (tallied reach (zero_at reach (tally reach sites codes)))
  is_zero_code = zero_after (peak_at reach (tally reach sites codes)) peak_within

  pub is_peak : (p : ℤ) → p ≡ peak_of reach sites codes → IsPeak reach sites codes p
  is_peak p e = rw e is_peak_code

  pub is_zero : (p z : ℤ) → p ≡ peak_of reach sites codes → z ≡ zero_of reach sites codes → IsZero reach sites codes p z
  is_zero p z at end = rw (at, end) is_zero_code
