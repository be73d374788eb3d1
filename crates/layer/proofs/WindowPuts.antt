-- What a put through a window does, by the put below. Assumes nothing.
use Rattle.std.proofs.Common.{◌≡◌, ℕ, ◌+◌, ◌-◌, ◌^◌, ◌<◌, min, Bool, true, false, if◌then◌else◌, ◌&&◌, nat_lt, List, length, slice_index, slice_index_or, take, drop, slice_set, ℤ, pos, Result, sym, refl, ap, ◌∙◌, subst, ⊎_elim, arith, drop-set-lt}
use lib.Seq.{take-set-le, take-set-lt, drop-set-add}
use Rattle.std.proofs.lemmas.List.{ext_get_or, get_or-set_other, get_or-set_same, length-set}
use Rattle.std.proofs.lemmas.Bool.{cases_eq, lt-ltb}
use Rattle.refusal.specs.declared.Refusal.{Refusal}
use Rattle.carrier.specs.Blanked.{blanked, blanked-set}
use Rattle.carrier.specs.Meaning.{Site, Puts, no_site, put_codes, takes}
use Rattle.carrier.specs.declared.interface.Carrier.{Ghosts}
use Rattle.layer.specs.Over.{raised}
use Rattle.layer.specs.Window.{windowed, seats_of, window_rest}
use Rattle.layer.specs.WindowMeaning.{length-windowed, windowed_at, windowed_seat, place_below, length-seats_of, seats_of_at}
use Rattle.layer.proofs.Putting.{cond_alike}

-- a change of the sample at one of the numbers is not seen once blanked
one_hidden : (ks before after : List ℕ) (i : ℕ) → i < length ks → length after ≡ length before → ((k : ℕ) → (k ≡ slice_index ks i → ⊥) → slice_index after k ≡ slice_index before k) → blanked ks after ≡ blanked ks before
one_hidden ks before after i h long others =
    ap (blanked ks) one_set ∙ blanked-set ks before i (slice_index after (slice_index ks i)) h
  where
    one_set : after ≡ slice_set before (slice_index ks i) (slice_index after (slice_index ks i))
    one_set =
        ext_get_or 0 after (slice_set before (slice_index ks i) (slice_index after (slice_index ks i)))
        (long ∙ sym (length-set before (slice_index ks i) (slice_index after (slice_index ks i))))
        (λ k low.
        ⊎_elim
        (λ (e : k ≡ slice_index ks i).
        ap (λ n. slice_index after n) e
        ∙ sym (get_or-set_same before (slice_index ks i) (slice_index after (slice_index ks i)) 0 (omega arith))
        ∙ ap (λ n. slice_index_or (slice_set before (slice_index ks i) (slice_index after (slice_index ks i))) n 0) (sym e))
        (λ (ne : k ≡ slice_index ks i → ⊥). others k ne ∙ sym (get_or-set_other before (slice_index ks i) k (slice_index after (slice_index ks i)) 0 ne))
        (cases_eq k (slice_index ks i)))

-- a put of v at place start + i below is a put of v at place i of the window
module _ (start shown height : ℕ) (sites : List Site) (i : ℕ) (v : ℤ) (codes codes' : List ℤ) (before after : List ℕ) (answer : Result (Unit {0}) Refusal) (paired : length sites ≡ length codes) (there : i < length (windowed start shown codes)) (puts : Puts height sites (start + i) v codes codes' before after answer) where
  low : i < shown
  low = (place_below start shown codes i there).0

  here : nat_lt (start + i) (length codes) ≡ true
  here = lt-ltb (start + i) (length codes) (place_below start shown codes i there).1

  here_windowed : nat_lt i (length (windowed start shown codes)) ≡ true
  here_windowed = lt-ltb i (length (windowed start shown codes)) there

  site : slice_index_or (windowed start shown sites) i no_site ≡ slice_index_or sites (start + i) no_site
  site = windowed_at start shown sites i no_site low

  allowed : (nat_lt (start + i) (length codes) && takes (slice_index_or sites (start + i) no_site) v) ≡ (nat_lt i (length (windowed start shown codes)) && takes (slice_index_or (windowed start shown sites) i no_site) v)
  allowed = λ j. (here ∙ sym here_windowed) j && takes (sym site j) v

  set_windowed : windowed start shown (slice_set codes (start + i) v) ≡ slice_set (windowed start shown codes) i v
  unfolding windowed
  set_windowed = ap (take shown) (drop-set-add start codes i v) ∙ take-set-lt shown (drop start codes) i v low

  codes_windowed : windowed start shown (put_codes sites codes (start + i) v) ≡ put_codes (windowed start shown sites) (windowed start shown codes) i v
  codes_windowed =
      cond_alike (windowed start shown) (nat_lt (start + i) (length codes) && takes (slice_index_or sites (start + i) no_site) v) (slice_set codes (start + i) v) codes (slice_set (windowed start shown codes) i v) (λ _. set_windowed)
      ∙ ap (λ b. if b then slice_set (windowed start shown codes) i v else windowed start shown codes) allowed

  pub window_puts : Puts (raised height) (windowed start shown sites) i v (windowed start shown codes) (windowed start shown codes') before after answer
  window_puts = record {
    says = rw (here_windowed, site, windowed_seat start shown sites i low) (rw here at puts.says);
    code = ap (windowed start shown) puts.code ∙ codes_windowed;
    moves = record {
      seat = rw (windowed_seat start shown sites i low, windowed_at start shown codes' i (pos 0) low, windowed_at start shown codes i (pos 0) low) puts.moves.seat;
      others = λ k off. puts.moves.others k (λ e. off (e ∙ sym (windowed_seat start shown sites i low)));
    };
  }

  -- the hidden codes stay
  unchanged : (f : List ℤ → List ℤ) → f (slice_set codes (start + i) v) ≡ f codes → f codes' ≡ f codes
  unchanged f same =
      ap f puts.code
      ∙ cond_alike f (nat_lt (start + i) (length codes) && takes (slice_index_or sites (start + i) no_site) v) (slice_set codes (start + i) v) codes (f codes) (λ _. same)
      ∙ both (nat_lt (start + i) (length codes) && takes (slice_index_or sites (start + i) no_site) v) (f codes)
    where
      both : (b : Bool) (x : List ℤ) → (if b then x else x) ≡ x
      both true x = refl
      both false x = refl

  pub front_stays : take start codes' ≡ take start codes
  front_stays = unchanged (take start) (take-set-le start codes (start + i) v (omega arith))

  pub back_stays : drop shown (drop start codes') ≡ drop shown (drop start codes)
  back_stays = unchanged (λ l. drop shown (drop start l)) (ap (drop shown) (drop-set-add start codes i v) ∙ drop-set-lt shown (drop start codes) i v low)

  -- so do the samples off the seats
  pub others_stay : length after ≡ length before → blanked (seats_of (windowed start shown sites)) after ≡ blanked (seats_of (windowed start shown sites)) before
  others_stay long =
      one_hidden (seats_of (windowed start shown sites)) before after i in_seats long
      (λ k off. puts.moves.others k (λ e. off (e ∙ sym (seats_of_at (windowed start shown sites) i ∙ windowed_seat start shown sites i low))))
    where
      in_seats : i < length (seats_of (windowed start shown sites))
      in_seats = omega (arith, length-seats_of (windowed start shown sites), length-windowed start shown sites, length-windowed start shown codes, paired)

-- and with them the whole rest of the window
pub rest_stays : {R : Type 0} (sites : R → List Site) (rest rest' : R) (start shown height i : ℕ) (v : ℤ) (codes codes' : List ℤ) (before after : List ℕ) (answer : Result (Unit {0}) Refusal) → length (sites rest) ≡ length codes → i < length (windowed start shown codes) → Puts height (sites rest) (start + i) v codes codes' before after answer → rest' ≡ rest → length after ≡ length before → window_rest sites rest' start shown codes' after ≡ window_rest sites rest start shown codes before
rest_stays sites rest rest' start shown height i v codes codes' before after answer paired there puts same long =
    let front = front_stays start shown height (sites rest) i v codes codes' before after answer paired there puts in
    let back = back_stays start shown height (sites rest) i v codes codes' before after answer paired there puts in
    let others = others_stay start shown height (sites rest) i v codes codes' before after answer paired there puts long in
    λ j. record {
      below = same j;
      start = start;
      shown = shown;
      before = front j;
      after = back j;
      others = (ap (λ r. blanked (seats_of (windowed start shown (sites r))) after) same ∙ others) j;
    }

-- all that a put of v at place i of a carrier ensures, where the put takes it from s to t
abbrev PutDone : {S : Type 0} → Ghosts S → (S → List ℕ) → S → S → ℕ → ℤ → Result (Unit {0}) Refusal → Type 0
PutDone c lent s t i v r =
    record {
      puts : Puts (c.level (c.rest s)) (c.sites (c.rest s)) i v (c.codes s) (c.codes t) (c.picture s) (c.picture t) r;
      rest : c.rest t ≡ c.rest s;
      lent : lent t ≡ lent s;
    }

-- all that a put of v at place i of a window ensures, where the put takes the carrier below from s to t
abbrev WindowPutDone : {S : Type 0} → Ghosts S → (S → List ℕ) → ℕ → ℕ → S → S → ℕ → ℤ → Result (Unit {0}) Refusal → Type 0
WindowPutDone c lent start shown s t i v r =
    record {
      puts : Puts (raised (c.level (c.rest s))) (windowed start shown (c.sites (c.rest s))) i v (windowed start shown (c.codes s)) (windowed start shown (c.codes t)) (c.picture s) (c.picture t) r;
      rest : window_rest c.sites (c.rest t) start shown (c.codes t) (c.picture t) ≡ window_rest c.sites (c.rest s) start shown (c.codes s) (c.picture s);
      lent : lent t ≡ lent s;
    }

-- all that a put through a window ensures
pub window_put : {S : Type 0} (c : Ghosts S) (lent : S → List ℕ) (start shown : ℕ) (s t : S) (i k : ℕ) (u v : ℤ) (answer : Result (Unit {0}) Refusal) → i < length (windowed start shown (c.codes s)) → k ≡ min (start + i) (2 ^ 64 - 1) → v ≡ u → PutDone c lent s t k v answer → WindowPutDone c lent start shown s t i u answer
window_put c lent start shown s t i k u v answer there sum same done =
    let few = c.meaning.few s in
    let paired = c.meaning.paired s in
    let inner = place_below start shown (c.codes s) i there in
    let exact : k ≡ start + i = omega (arith, inner.1) in
    let puts : Puts (c.level (c.rest s)) (c.sites (c.rest s)) (start + i) u (c.codes s) (c.codes t) (c.picture s) (c.picture t) answer =
    subst (λ n. Puts (c.level (c.rest s)) (c.sites (c.rest s)) n u (c.codes s) (c.codes t) (c.picture s) (c.picture t) answer) exact
    (subst (λ z. Puts (c.level (c.rest s)) (c.sites (c.rest s)) k z (c.codes s) (c.codes t) (c.picture s) (c.picture t) answer) same done.puts) in
    record {
      puts = window_puts start shown _ _ i u _ _ _ _ answer paired there puts;
      rest = rest_stays c.sites (c.rest s) (c.rest t) start shown _ i u _ _ _ _ answer paired there puts done.rest (c.meaning.told_length t s done.rest);
      lent = done.lent;
    }
