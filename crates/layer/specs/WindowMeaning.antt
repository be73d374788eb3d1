-- That a window over a carrier has the meaning of a carrier. Assumes nothing.
use Rattle.std.specs.Prelude.{◌≡◌, ℕ, zero, suc, ◌+◌, ◌-◌, ◌<◌, min, List, [], ◌∷◌, ◌++◌, length, take, drop, ℤ, slice_index, slice_index_or, refl}
use Rattle.std.proofs.Common.{sym, ap, subst, ◌∙◌, arith, length-take, length-drop, take-append-drop}
use Rattle.std.proofs.lemmas.List.{get_or-drop, get_or-take, length-map}
use Rattle.carrier.specs.Blanked.{blanked, NoneOf, get_or-blanked}
use Rattle.carrier.specs.Meaning.{Site, Meaning, no_site, seat_at, Unseated}
use Rattle.layer.specs.Window.{windowed, seats_of, window_rest, window_sites}

pub length-windowed : {X : Type 0} (start shown : ℕ) (xs : List X) → length (windowed start shown xs) ≡ min shown (length xs - start)
unfolding windowed
length-windowed start shown xs = length-take shown (drop start xs) ∙ ap (λ n. min shown n) (length-drop start xs)

pub windowed_at : {X : Type 0} (start shown : ℕ) (xs : List X) (i : ℕ) (d : X) → i < shown → slice_index_or (windowed start shown xs) i d ≡ slice_index_or xs (start + i) d
unfolding windowed
windowed_at start shown xs i d h = get_or-take shown (drop start xs) i d h ∙ get_or-drop start xs i d

-- a place of the window is a place below
pub place_below : {X : Type 0} (start shown : ℕ) (xs : List X) (i : ℕ) → i < length (windowed start shown xs) → (i < shown) × (start + i < length xs)
place_below start shown xs i h = (omega (arith, length-windowed start shown xs), omega (arith, length-windowed start shown xs))

-- it keeps its seat
pub windowed_seat : (start shown : ℕ) (sites : List Site) (i : ℕ) → i < shown → seat_at (windowed start shown sites) i ≡ seat_at sites (start + i)
windowed_seat start shown sites i h = ap (λ (s : Site). s.seat) (windowed_at start shown sites i no_site h)

-- what lies in front, what is shown and what lies behind is all
whole : {X : Type 0} (start shown : ℕ) (xs : List X) → take start xs ++ (windowed start shown xs ++ drop shown (drop start xs)) ≡ xs
unfolding windowed
whole start shown xs = ap (λ l. take start xs ++ l) (take-append-drop shown (drop start xs)) ∙ take-append-drop start xs

pub length-seats_of : (sites : List Site) → length (seats_of sites) ≡ length sites
unfolding seats_of
length-seats_of sites = length-map sites (λ s. s.seat)

pub seats_of_at : (sites : List Site) (i : ℕ) → slice_index (seats_of sites) i ≡ seat_at sites i
unfolding seats_of
seats_of_at [] i = refl
seats_of_at (s ∷ sites) zero = refl
seats_of_at (s ∷ sites) (suc i) = seats_of_at sites i

-- a sample that is no seat is none of the seats
pub none_of_seats : (sites : List Site) (k : ℕ) → Unseated sites k → NoneOf (seats_of sites) k
none_of_seats sites k free i h e = free i (subst (λ n. i < n) (length-seats_of sites) h) (sym (seats_of_at sites i) ∙ e)

-- the hidden codes and those that are shown tell all
codes_follow : (start start' shown shown' : ℕ) (codes codes' : List ℤ) → take start codes ≡ take start' codes' → windowed start shown codes ≡ windowed start' shown' codes' → drop shown (drop start codes) ≡ drop shown' (drop start' codes') → codes ≡ codes'
codes_follow start start' shown shown' codes codes' before shows after =
    sym (whole start shown codes) ∙ (λ i. before i ++ (shows i ++ after i)) ∙ whole start' shown' codes'

-- the samples off the seats are told
others_told : (sites sites' : List Site) (picture picture' : List ℕ) → sites ≡ sites' → blanked (seats_of sites) picture ≡ blanked (seats_of sites') picture' → (k : ℕ) → Unseated sites k → slice_index picture k ≡ slice_index picture' k
others_told sites sites' picture picture' same others k free =
    let none = none_of_seats sites k free in
    sym (get_or-blanked (seats_of sites) picture k none)
    ∙ ap (λ l. slice_index l k) (others ∙ ap (λ l. blanked (seats_of l) picture') (sym same))
    ∙ get_or-blanked (seats_of sites) picture' k none

-- what shows `shown` places from `start` on of a carrier, which is `below`, has the meaning
pub window_meaning : {T S R : Type 0} (below : T → S) (start shown : T → ℕ) {rest : S → R} {codes : S → List ℤ} {sites : R → List Site} {picture : S → List ℕ} → Meaning rest codes sites picture → Meaning (λ t. window_rest sites (rest (below t)) (start t) (shown t) (codes (below t)) (picture (below t))) (λ t. windowed (start t) (shown t) (codes (below t))) (window_sites sites) (λ t. picture (below t))
window_meaning {T} {S} {R} below start shown {rest} {codes} {sites} {picture} m =
    let place : (t : T) (i : ℕ) → i < length (windowed (start t) (shown t) (codes (below t))) → (i < shown t) × (start t + i < length (codes (below t))) = λ t i h. place_below (start t) (shown t) (codes (below t)) i h in
    let seat : (t : T) (i : ℕ) → i < length (windowed (start t) (shown t) (codes (below t))) → seat_at (windowed (start t) (shown t) (sites (rest (below t)))) i ≡ seat_at (sites (rest (below t))) (start t + i) = λ t i h. windowed_seat (start t) (shown t) (sites (rest (below t))) i (place t i h).0 in
    record {
      few = λ t. omega (arith, length-windowed (start t) (shown t) (codes (below t)), m.few (below t));
      paired = λ t.
          length-windowed (start t) (shown t) (sites (rest (below t)))
          ∙ ap (λ n. min (shown t) (n - start t)) (m.paired (below t))
          ∙ sym (length-windowed (start t) (shown t) (codes (below t)));
      seated = λ t i h. subst (λ n. n < length (picture (below t))) (sym (seat t i h)) (m.seated (below t) (start t + i) (place t i h).1);
      apart = λ t i j h k e.
          let same : start t + i ≡ start t + j = m.apart (below t) (start t + i) (start t + j) (place t i h).1 (place t j k).1 (sym (seat t i h) ∙ e ∙ seat t j k) in
          omega arith;
      follows = λ s t e f. m.follows (below s) (below t) (λ i. (e i).below) (codes_follow (start s) (start t) (shown s) (shown t) (codes (below s)) (codes (below t)) (λ i. (e i).before) f (λ i. (e i).after));
      told_length = λ s t e. m.told_length (below s) (below t) (λ i. (e i).below);
      told = λ s t e k free. others_told _ _ (picture (below s)) (picture (below t)) (λ i. window_sites sites (e i)) (λ i. (e i).others) k free;
    }
