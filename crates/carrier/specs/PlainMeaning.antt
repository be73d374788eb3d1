-- That the plain carrier has the meaning of a carrier. Assumes nothing.
use Rattle.std.specs.Prelude.{◌≡◌, ℕ, ◌+◌, ◌-◌, ◌<◌, ◌≤◌, min, List, [], ◌∷◌, ◌++◌, map, length, take, pos, slice_index, slice_index_or, refl}
use Rattle.std.proofs.Common.{sym, ap, subst, ◌∙◌, ⊎_elim, arith, length-take, length-drop, take-append-drop}
use Rattle.std.specs.Int.Signed.{mag}
use Rattle.std.proofs.lemmas.List.FromFn.{length-map-range_with_len, get_or-map-range_with_len}
use Rattle.std.proofs.lemmas.List.{get_or-drop, get_or_past, length-map}
use Rattle.std.proofs.lemmas.Bool.{cases_lt}
use Rattle.carrier.specs.Meaning.{Site, Meaning, no_site, seat_at, Unseated}
use Rattle.carrier.specs.Plain.{most, PlainRest, plain_site, plain_sites, plain_codes, plain_rest}

-- as many codes as samples, up to the limit
pub length-plain_codes : (samples : List ℕ) → length (plain_codes samples) ≡ min most (length samples)
unfolding plain_codes
length-plain_codes samples = length-map (take most samples) pos ∙ length-take most samples

pub length-plain_sites : (r : PlainRest) → length (plain_sites r) ≡ r.count
unfolding plain_sites
length-plain_sites r = length-map-range_with_len (plain_site r.maximum) 0 r.count

pub plain_site_at : (r : PlainRest) (i : ℕ) (d : Site) → i < r.count → slice_index_or (plain_sites r) i d ≡ plain_site r.maximum i
unfolding plain_sites
plain_site_at r i d h = get_or-map-range_with_len (plain_site r.maximum) 0 r.count i i d h (omega arith)

-- codes tell samples
unpos : (xs ys : List ℕ) → map pos xs ≡ map pos ys → xs ≡ ys
unpos xs ys e = sym (back xs) ∙ ap (map mag) e ∙ back ys
  where
    back : (zs : List ℕ) → map mag (map pos zs) ≡ zs
    back [] = refl
    back (z ∷ zs) = ap (λ l. z ∷ l) (back zs)

samples_follow : (m n : ℕ) (s t : List ℕ) → (plain_rest m s).beyond ≡ (plain_rest n t).beyond → plain_codes s ≡ plain_codes t → s ≡ t
unfolding plain_rest plain_codes
samples_follow m n s t beyond codes =
    sym (take-append-drop most s) ∙ (λ i. unpos _ _ codes i ++ beyond i) ∙ take-append-drop most t

-- the rest tells the number of samples
length-told : (r : PlainRest) (m : ℕ) (s : List ℕ) → r ≡ plain_rest m s → length s ≡ r.count + length r.beyond
unfolding plain_rest
length-told r m s e = omega (arith, ap (λ q. q.count) e, ap (λ q. length q.beyond) e, length-drop most s)

-- a sample that is no seat lies past the last place, and the rest has it
past : (r : PlainRest) (k : ℕ) → Unseated (plain_sites r) k → r.count ≤ k
past r k free =
    ⊎_elim
    (λ low. absurd (free k (subst (λ n. k < n) (sym (length-plain_sites r)) low) (ap (λ (p : Site). p.seat) (plain_site_at r k no_site low))))
    (λ high. high)
    (cases_lt k r.count)

sample_told : (r : PlainRest) (m : ℕ) (s : List ℕ) (k : ℕ) → r ≡ plain_rest m s → r.count ≤ k → slice_index s k ≡ slice_index r.beyond (k - most)
unfolding plain_rest
sample_told r m s k e high =
    ⊎_elim
    (λ low.
    get_or_past s k 0 (omega (arith, ap (λ q. q.count) e))
    ∙ sym (get_or_past r.beyond (k - most) 0 (omega (arith, ap (λ q. q.count) e, ap (λ q. length q.beyond) e, length-drop most s))))
    (λ far.
    ap (λ n. slice_index s n) (omega arith) ∙ sym (get_or-drop most s (k - most) 0) ∙ ap (λ l. slice_index l (k - most)) (sym (ap (λ q. q.beyond) e)))
    (cases_lt k most)

-- the seat of each place is its own number
pub plain_seat : (m : ℕ) (s : List ℕ) (i : ℕ) → i < length (plain_codes s) → (seat_at (plain_sites (plain_rest m s)) i ≡ i) × (i < length s)
unfolding plain_rest
plain_seat m s i h =
    let low : i < min most (length s) = subst (λ n. i < n) (length-plain_codes s) h in
    (ap (λ (p : Site). p.seat) (plain_site_at (plain_rest m s) i no_site low), omega arith)

each_paired : (m : ℕ) (s : List ℕ) → length (plain_sites (plain_rest m s)) ≡ length (plain_codes s)
unfolding plain_rest
each_paired m s = length-plain_sites (plain_rest m s) ∙ sym (length-plain_codes s)

-- a carrier that is plain by its maximum and its samples has the meaning
pub plain_meaning : {S : Type 0} (maximum : S → ℕ) (samples : S → List ℕ) → Meaning (λ s. plain_rest (maximum s) (samples s)) (λ s. plain_codes (samples s)) plain_sites samples
plain_meaning maximum samples = record {
  few = λ s. omega (arith, length-plain_codes (samples s));
  paired = λ s. each_paired (maximum s) (samples s);
  seated = λ s i h. let at = plain_seat (maximum s) (samples s) i h in omega (arith, at.0, at.1);
  apart = λ s i j h k e. sym (plain_seat (maximum s) (samples s) i h).0 ∙ e ∙ (plain_seat (maximum s) (samples s) j k).0;
  follows = λ s t rest codes. samples_follow (maximum s) (maximum t) (samples s) (samples t) (λ i. (rest i).beyond) codes;
  told_length = λ s t e. length-told _ (maximum s) (samples s) refl ∙ sym (length-told _ (maximum t) (samples t) e);
  told = λ s t e k free.
      let high = past _ k free in
      sample_told _ (maximum s) (samples s) k refl high ∙ sym (sample_told _ (maximum t) (samples t) k e high);
}
