-- A picture with some of its samples left out. Assumes nothing.
use Rattle.std.specs.Prelude.{◌≡◌, ℕ, zero, suc, ◌<◌, ◌⊎◌, List, [], ◌∷◌, length, slice_set, ◌≢◌, slice_index, refl}
use Rattle.std.proofs.Common.{sym, ap, ◌∙◌, inl, inr, ⊎_elim, arith}
use Rattle.std.proofs.lemmas.List.{length-set, set-set, set_comm, get_or-set_other, ext_get_or}
use Rattle.std.proofs.lemmas.Bool.{cases_eq}

-- the samples, with 0 at each of these numbers
unfoldable pub blanked : List ℕ → List ℕ → List ℕ
blanked [] samples = samples
blanked (k ∷ ks) samples = slice_set (blanked ks samples) k 0

-- k is none of these numbers
abbrev pub NoneOf : List ℕ → ℕ → Type 0
NoneOf ks k = (i : ℕ) → i < length ks → slice_index ks i ≢ k

later : (j : ℕ) (ks : List ℕ) (k : ℕ) → NoneOf (j ∷ ks) k → NoneOf ks k
later j ks k none i h = none (suc i) (omega arith)

pub length-blanked : (ks samples : List ℕ) → length (blanked ks samples) ≡ length samples
unfolding blanked
length-blanked [] samples = refl
length-blanked (k ∷ ks) samples = length-set (blanked ks samples) k 0 ∙ length-blanked ks samples

-- every other sample is as it was
pub get_or-blanked : (ks samples : List ℕ) (k : ℕ) → NoneOf ks k → slice_index (blanked ks samples) k ≡ slice_index samples k
unfolding blanked
get_or-blanked [] samples k none = refl
get_or-blanked (j ∷ ks) samples k none =
    get_or-set_other (blanked ks samples) j k 0 0 (λ e. none 0 (omega arith) (sym e)) ∙ get_or-blanked ks samples k (later j ks k none)

-- what is left out may change
set_hidden : (ks samples : List ℕ) (k v : ℕ) → slice_set (blanked ks (slice_set samples k v)) k 0 ≡ slice_set (blanked ks samples) k 0
unfolding blanked
set_hidden [] samples k v = set-set samples k v 0
set_hidden (j ∷ ks) samples k v =
    ⊎_elim
    (λ (e : j ≡ k).
    ap (λ n. slice_set (slice_set (blanked ks (slice_set samples k v)) n 0) k 0) e ∙ set-set (blanked ks (slice_set samples k v)) k 0 0 ∙ set_hidden ks samples k v
    ∙ sym (set-set (blanked ks samples) k 0 0) ∙ ap (λ n. slice_set (slice_set (blanked ks samples) n 0) k 0) (sym e))
    (λ (ne : j ≡ k → ⊥).
    set_comm (blanked ks (slice_set samples k v)) j k 0 0 ne ∙ ap (λ l. slice_set l j 0) (set_hidden ks samples k v) ∙ sym (set_comm (blanked ks samples) j k 0 0 ne))
    (cases_eq j k)

pub blanked-set : (ks samples : List ℕ) (i v : ℕ) → i < length ks → blanked ks (slice_set samples (slice_index ks i) v) ≡ blanked ks samples
unfolding blanked
blanked-set [] samples i v h = absurd (omega arith)
blanked-set (k ∷ ks) samples zero v h = set_hidden ks samples k v
blanked-set (k ∷ ks) samples (suc i) v h = ap (λ l. slice_set l k 0) (blanked-set ks samples i v (omega arith))

-- a number is one of these or none
one_or_none : (ks : List ℕ) (k : ℕ) → ((i : ℕ) × (i < length ks) × (slice_index ks i ≡ k)) ⊎ NoneOf ks k
one_or_none [] k = inr (λ i h. absurd (omega arith))
one_or_none (j ∷ ks) k =
    ⊎_elim
    (λ (e : j ≡ k). inl (0, omega arith, e))
    (λ (ne : j ≡ k → ⊥).
    ⊎_elim
    (λ (found : (i : ℕ) × (i < length ks) × (slice_index ks i ≡ k)). inl (suc found.0, omega (arith, found.1), found.2))
    (λ (none : NoneOf ks k). inr (first ne none))
    (one_or_none ks k))
    (cases_eq j k)
  where
    first : (j ≢ k) → NoneOf ks k → NoneOf (j ∷ ks) k
    first ne none zero h = ne
    first ne none (suc i) h = none i (omega arith)

-- what is left out and the rest of a picture make it up
pub blanked_with : (ks xs ys : List ℕ) → blanked ks xs ≡ blanked ks ys → ((i : ℕ) → i < length ks → slice_index xs (slice_index ks i) ≡ slice_index ys (slice_index ks i)) → xs ≡ ys
blanked_with ks xs ys rest same =
    ext_get_or 0 xs ys (sym (length-blanked ks xs) ∙ ap length rest ∙ length-blanked ks ys)
    (λ k h.
    ⊎_elim
    (λ (found : (i : ℕ) × (i < length ks) × (slice_index ks i ≡ k)). ap (λ n. slice_index xs n) (sym found.2) ∙ same found.0 found.1 ∙ ap (λ n. slice_index ys n) found.2)
    (λ (none : NoneOf ks k). sym (get_or-blanked ks xs k none) ∙ ap (λ l. slice_index l k) rest ∙ get_or-blanked ks ys k none)
    (one_or_none ks k))
