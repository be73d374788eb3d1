-- That a turn over a carrier has the meaning of a carrier. Assumes nothing.
use Rattle.std.specs.Prelude.{◌≡◌, ℕ, zero, suc, ◌<◌, ◌≤◌, List, [], ◌∷◌, map, length, ℤ, pos, negsuc, neg_ℤ, slice_index_or, refl}
use Rattle.std.proofs.Common.{sym, ap, subst, ◌∙◌}
use Rattle.std.proofs.lemmas.List.{length-map}
use Rattle.carrier.specs.Meaning.{Site, Meaning, no_site, seat_at, Unseated}
use Rattle.layer.specs.Turn.{turned_site, turned_sites, turned_codes}

pub length-turned_codes : (codes : List ℤ) → length (turned_codes codes) ≡ length codes
unfolding turned_codes
length-turned_codes codes = length-map codes neg_ℤ

pub length-turned_sites : (sites : List Site) → length (turned_sites sites) ≡ length sites
unfolding turned_sites
length-turned_sites sites = length-map sites turned_site

-- a code and a site of the turn, also past the last place
pub turned_code_at : (codes : List ℤ) (i : ℕ) → slice_index_or (turned_codes codes) i (pos 0) ≡ neg_ℤ (slice_index_or codes i (pos 0))
unfolding turned_codes
turned_code_at [] i = refl
turned_code_at (z ∷ codes) zero = refl
turned_code_at (z ∷ codes) (suc i) = turned_code_at codes i

pub turned_site_at : (sites : List Site) (i : ℕ) → slice_index_or (turned_sites sites) i no_site ≡ turned_site (slice_index_or sites i no_site)
unfolding turned_sites
turned_site_at [] i = refl
turned_site_at (s ∷ sites) zero = refl
turned_site_at (s ∷ sites) (suc i) = turned_site_at sites i

-- each place keeps its seat
pub turned_seat_at : (sites : List Site) (i : ℕ) → seat_at (turned_sites sites) i ≡ seat_at sites i
turned_seat_at sites i = ap (λ (s : Site). s.seat) (turned_site_at sites i)

neg-neg : (z : ℤ) → neg_ℤ (neg_ℤ z) ≡ z
neg-neg (pos zero) = refl
neg-neg (pos (suc n)) = refl
neg-neg (negsuc n) = refl

-- the codes of a turn tell those below
unturned : (xs ys : List ℤ) → turned_codes xs ≡ turned_codes ys → xs ≡ ys
unfolding turned_codes
unturned xs ys e = sym (back xs) ∙ ap (map neg_ℤ) e ∙ back ys
  where
    back : (zs : List ℤ) → map neg_ℤ (map neg_ℤ zs) ≡ zs
    back [] = refl
    back (z ∷ zs) = λ i. neg-neg z i ∷ back zs i

-- a sample that is no seat of the turn is none below
unseated : (sites : List Site) (k : ℕ) → Unseated (turned_sites sites) k → Unseated sites k
unseated sites k free i h e =
    free i (subst (λ n. i < n) (sym (length-turned_sites sites)) h) (turned_seat_at sites i ∙ e)

-- what lies over a carrier by `below`, and turns it, has the meaning
pub turn_meaning : {T S R : Type 0} (below : T → S) {rest : S → R} {codes : S → List ℤ} {sites : R → List Site} {picture : S → List ℕ} → Meaning rest codes sites picture → Meaning (λ t. rest (below t)) (λ t. turned_codes (codes (below t))) (λ r. turned_sites (sites r)) (λ t. picture (below t))
turn_meaning below {rest} {codes} {sites} {picture} m =
    let within : (t : _) (i : ℕ) → i < length (turned_codes (codes (below t))) → i < length (codes (below t)) = λ t i h. subst (λ n. i < n) (length-turned_codes (codes (below t))) h in
    let seat : (t : _) (i : ℕ) → seat_at (turned_sites (sites (rest (below t)))) i ≡ seat_at (sites (rest (below t))) i = λ t i. turned_seat_at (sites (rest (below t))) i in
    record {
      few = λ t. subst (λ n. n ≤ 67108864) (sym (length-turned_codes (codes (below t)))) (m.few (below t));
      paired = λ t. length-turned_sites (sites (rest (below t))) ∙ m.paired (below t) ∙ sym (length-turned_codes (codes (below t)));
      seated = λ t i h. subst (λ n. n < length (picture (below t))) (sym (seat t i)) (m.seated (below t) i (within t i h));
      apart = λ t i j h k e. m.apart (below t) i j (within t i h) (within t j k) (sym (seat t i) ∙ e ∙ seat t j);
      follows = λ s t e f. m.follows (below s) (below t) e (unturned _ _ f);
      told_length = λ s t e. m.told_length (below s) (below t) e;
      told = λ s t e k free. m.told (below s) (below t) e k (unseated _ k free);
    }
