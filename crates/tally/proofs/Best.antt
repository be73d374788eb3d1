-- The first best of a row, as a definition and as a relation. Assumes nothing.
use Rattle.std.proofs.Common.{◌≡◌, ℕ, zero, suc, ◌+◌, ◌-◌, ◌<◌, ◌≤◌, Bool, true, false, List, [], ◌∷◌, length, slice_index, slice_index_or, sym, ap, ◌∙◌, ⊎_elim, arith}
use Rattle.std.specs.Prelude.{nat_lt}
use Rattle.std.specs.Cmp.{IsStrictWeakOrder}
use Rattle.std.specs.List.{IsFirstBest}
use Rattle.std.proofs.lemmas.List.MinMax.{IsStrictWeakOrder-by_number, IsStrictWeakOrder-flip, IsFirstBest-none, IsFirstBest-takes, IsFirstBest-keeps, IsFirstBest-unique}
use Rattle.std.proofs.lemmas.List.{get_or_default}
use Rattle.std.proofs.lemmas.Bool.{cases_Bool, cond-true, cond-false}
use Rattle.tally.specs.Tally.{first_best}

-- the greater count is better, and the smaller one
pub greater : IsStrictWeakOrder (λ x y. nat_lt y x)
greater = IsStrictWeakOrder-flip _ (IsStrictWeakOrder-by_number (λ n. n))

pub less : IsStrictWeakOrder (λ x y. nat_lt x y)
less = IsStrictWeakOrder-by_number (λ n. n)

read : (xs : List ℕ) (k : ℕ) → k < length xs → slice_index xs k ≡ slice_index_or xs k (slice_index xs k)
read xs k h = get_or_default xs k 0 (slice_index xs k) h

module _ (o : ℕ → ℕ → Bool) (ranks : IsStrictWeakOrder o) where
  never_itself : (x : ℕ) → o x x ≡ false
  never_itself x = ⊎_elim (λ t. ranks.one_way x x t) (λ f. f) (cases_Bool (o x x))

  -- x before a row xs whose first best stands at r
  module _ (x : ℕ) (xs : List ℕ) (r : ℕ) (is : IsFirstBest o xs (length xs) r) where
    same_best : (d : ℕ) → slice_index_or xs r d ≡ slice_index xs r
    same_best d = get_or_default xs r d 0 is.0

    beaten_by_rest : o (slice_index xs r) x ≡ true → IsFirstBest o (x ∷ xs) (suc (length xs)) (suc r)
    beaten_by_rest win = (omega (arith, is.0), none, earlier)
      where
        none : (k d : ℕ) → k < suc (length xs) → o (slice_index_or (x ∷ xs) k d) (slice_index_or (x ∷ xs) (suc r) d) ≡ false
        none zero d h = ap (o x) (same_best d) ∙ ranks.one_way _ _ win
        none (suc k) d h = is.1 k d (omega arith)

        earlier : (k d : ℕ) → k < suc r → o (slice_index_or (x ∷ xs) (suc r) d) (slice_index_or (x ∷ xs) k d) ≡ true
        earlier zero d h = ap (λ v. o v x) (same_best d) ∙ win
        earlier (suc k) d h = is.2 k d (omega arith)

    unbeaten : o (slice_index xs r) x ≡ false → IsFirstBest o (x ∷ xs) (suc (length xs)) 0
    unbeaten lose = (omega arith, none, λ k d h. absurd (omega arith))
      where
        none : (k d : ℕ) → k < suc (length xs) → o (slice_index_or (x ∷ xs) k d) (slice_index_or (x ∷ xs) 0 d) ≡ false
        none zero d h = never_itself x
        none (suc k) d h = ranks.chain _ (slice_index xs r) _ (ap (o _) (sym (same_best d)) ∙ is.1 k d (omega arith)) lose

  pub first_best_is : (x : ℕ) (xs : List ℕ) → IsFirstBest o (x ∷ xs) (length (x ∷ xs)) (first_best o (x ∷ xs))
  unfolding first_best
  first_best_is x [] = IsFirstBest-none ranks (x ∷ [])
  first_best_is x (y ∷ ys) =
      let is = first_best_is y ys in
      let r = first_best o (y ∷ ys) in
      ⊎_elim
      (λ win. rw (cond-true _ (suc r) 0 win) (beaten_by_rest x (y ∷ ys) r is win))
      (λ lose. rw (cond-false _ (suc r) 0 lose) (unbeaten x (y ∷ ys) r is lose))
      (cases_Bool (o (slice_index (y ∷ ys) r) x))

  pub first_best_in : (xs : List ℕ) (n : ℕ) → length xs ≡ n → 0 < n → IsFirstBest o xs n (first_best o xs)
  first_best_in [] n long some = absurd (omega arith)
  first_best_in (x ∷ xs) n long some = rw (← long) (first_best_is x xs)

  -- one turn of a loop that keeps the first best of the counts before i
  pub turn_takes : (xs : List ℕ) (i b : ℕ) → (0 < i → IsFirstBest o xs i b) → b ≤ i - 1 → i < length xs → o (slice_index xs i) (slice_index xs b) ≡ true → IsFirstBest o xs (i + 1) i
  turn_takes xs zero b is low h win = IsFirstBest-none ranks xs
  turn_takes xs (suc i) b is low h win = IsFirstBest-takes ranks xs (suc i) b _ _ (is (omega arith)) h (read xs (suc i) h) (read xs b (omega arith)) win

  pub turn_keeps : (xs : List ℕ) (i b : ℕ) → (0 < i → IsFirstBest o xs i b) → b ≤ i - 1 → i < length xs → o (slice_index xs i) (slice_index xs b) ≡ false → IsFirstBest o xs (i + 1) b
  turn_keeps xs zero b is low h lose = let first : b ≡ 0 = omega arith in rw first (IsFirstBest-none ranks xs)
  turn_keeps xs (suc i) b is low h lose = IsFirstBest-keeps ranks xs (suc i) b _ _ (is (omega arith)) h (read xs (suc i) h) (read xs b (omega arith)) lose

  -- what the loop has found at the end of the row
  pub found : (xs : List ℕ) (i b : ℕ) → (0 < i → IsFirstBest o xs i b) → b ≤ i - 1 → i ≤ length xs → length xs ≤ i → b ≡ first_best o xs
  unfolding first_best
  found [] i b is low few end = omega arith
  found (x ∷ xs) i b is low few end =
      IsFirstBest-unique ranks (x ∷ xs) i b (first_best o (x ∷ xs)) 0 (is (omega arith)) (first_best_in (x ∷ xs) i (omega arith) (omega arith))
