-- A pass that tallies the codes of a carrier. Assumes nothing.
use Rattle.std.proofs.Common.{◌≡◌, ℕ, ◌+◌, ◌*◌, ◌<◌, ◌≤◌, List, length, replicate, ℤ, Some, ⊎_elim, arith}
use Rattle.std.specs.Prelude.{slice_index, if◌then◌else◌}
use lib.ListN.{length-replicate}
use Rattle.std.proofs.lemmas.List.FromFn.{fill_by_all}
use Rattle.std.proofs.lemmas.List.{get_or_past, get_or-replicate}
use Rattle.std.proofs.lemmas.Bool.{cases_lt}
use Rattle.carrier.specs.declared.interface.Place.{Place}
use Rattle.carrier.specs.Meaning.{Site, GivesPlace}
use Rattle.mark.specs.Places.{same}
use Rattle.mark.proofs.Passes.{Counted, counted_none, counted_more, counted_all}
use Rattle.tally.specs.Tally.{has_code, occurs, tallied, tally}

-- the counts of the first i places
pub record Tallied (reach : ℕ) (sites : List Site) (codes : List ℤ) (i : ℕ) (counts : List ℕ) : Type 0 where
  pub size : length counts ≡ 2 * reach + 1
  pub each : (k : ℕ) → k < 2 * reach + 1 → Counted (has_code (tallied reach k)) sites codes i (slice_index counts k)

module _ (reach : ℕ) (sites : List Site) (codes : List ℤ) where
  pub tallied_none : Tallied reach sites codes 0 (replicate (2 * reach + 1) 0)
  tallied_none = record {
    size = length-replicate {A = ℕ} (2 * reach + 1) 0;
    each = λ k h. rw (get_or-replicate {A = ℕ} (2 * reach + 1) k 0 0 h) (counted_none (has_code (tallied reach k)) sites codes);
  }

  -- no count reaches the number of places
  pub tallied_room : (i : ℕ) (counts : List ℕ) → length codes ≤ 67108864 → i < length codes → Tallied reach sites codes i counts → (k : ℕ) → slice_index counts k < 67108864
  tallied_room i counts few here t k =
      ⊎_elim
      (λ h. omega (arith, (t.each k h).few))
      (λ h. omega (arith, t.size, get_or_past counts k 0 (omega (arith, t.size))))
      (cases_lt k (2 * reach + 1))

  pub tallied_more : (paired : length sites ≡ length codes) (i j : ℕ) (p : Place) (before after : List ℕ) → GivesPlace sites codes i j (Some p) → length after ≡ 2 * reach + 1 → ((k : ℕ) → k < 2 * reach + 1 → slice_index after k ≡ slice_index before k + (if same p.code (tallied reach k) then 1 else 0)) → Tallied reach sites codes i before → Tallied reach sites codes j after
  tallied_more paired i j p before after step long added t = record {
    size = long;
    each = λ k h. counted_more (has_code (tallied reach k)) sites codes paired i j (slice_index before k) (slice_index after k) p step (added k h) (t.each k h);
  }

  pub tallied_all : (paired : length sites ≡ length codes) (i : ℕ) (counts : List ℕ) → length codes ≤ i → Tallied reach sites codes i counts → counts ≡ tally reach sites codes
  unfolding tally
  tallied_all paired i counts end t =
      fill_by_all (λ k. occurs sites codes (tallied reach k)) counts (2 * reach + 1) 0 t.size
      (λ k h. counted_all (has_code (tallied reach k)) sites codes paired i (slice_index counts k) end (t.each k h))
