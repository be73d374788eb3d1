-- What every carrier has and obeys. Assumes nothing.
use Rattle.std.specs.Prelude.{◌≡◌, ℕ, ◌+◌, ◌<◌, ◌≤◌, Bool, if◌then◌else◌, ◌&&◌, List, [], ◌∷◌, length, ℤ, pos, ◌-ℤ◌, neg_ℤ, ◌≤ℤ◌, Some, None, Option, Result, MatchOption, MatchResult, ◌≢◌, int_le, nat_lt, slice_index, slice_index_or, slice_set, unsigned_abs}
use Rattle.refusal.specs.declared.Refusal.{Refusal}
use Rattle.refusal.specs.Numbers.{Says}
use Rattle.refusal.specs.Answers.{Answer, accepted, refused, answer, tells}
use Rattle.carrier.specs.declared.interface.Place.{Place}

-- what a place has besides its code: the least and the greatest value that may be put there, and its seat, the
-- number of the one sample that it stands for
pub record Site : Type 0 where
  pub low : ℤ
  pub high : ℤ
  pub seat : ℕ

-- what a read past the last place would give; no contract reads there
abbrev pub no_site : Site
no_site = record { low = pos 0; high = pos 0; seat = 0 }

-- the seat of place i
abbrev pub seat_at : List Site → ℕ → ℕ
seat_at sites i = (slice_index_or sites i no_site).seat

-- sample k is the seat of no place
abbrev pub Unseated : List Site → ℕ → Type 0
Unseated sites k = (i : ℕ) → i < length sites → seat_at sites i ≢ k

-- The meaning of a carrier of type S: its rest (all but the codes), its codes, what the rest tells of each place,
-- and the picture.
pub record Meaning {S R : Type 0} (rest : S → R) (codes : S → List ℤ) (sites : R → List Site) (picture : S → List ℕ) : Type 0 where
  -- there are at most 2^26 places
  pub few : (s : S) → length (codes s) ≤ 67108864
  -- each place has a code and a site
  pub paired : (s : S) → length (sites (rest s)) ≡ length (codes s)
  -- a seat is a sample of the picture
  pub seated : (s : S) (i : ℕ) → i < length (codes s) → seat_at (sites (rest s)) i < length (picture s)
  -- different places have different seats
  pub apart : (s : S) (i j : ℕ) → i < length (codes s) → j < length (codes s) → seat_at (sites (rest s)) i ≡ seat_at (sites (rest s)) j → i ≡ j
  -- rest and codes determine the picture
  pub follows : (s t : S) → rest s ≡ rest t → codes s ≡ codes t → picture s ≡ picture t
  -- the rest knows how many samples there are, and every sample but those at the seats
  pub told_length : (s t : S) → rest s ≡ rest t → length (picture s) ≡ length (picture t)
  pub told : (s t : S) → rest s ≡ rest t → (k : ℕ) → Unseated (sites (rest s)) k → slice_index (picture s) k ≡ slice_index (picture t) k

-- codes, lows and highs are from -65,535 to 65,535
abbrev pub InRange : ℤ → Type 0
InRange z = (neg_ℤ (pos 65535) ≤ℤ z) × (z ≤ℤ pos 65535)

-- the site of a place as a carrier answers it
abbrev pub site_of : Place → Site
site_of p = record { low = p.low; high = p.high; seat = p.seat }

-- p is what a carrier says of place i
pub record Describes (sites : List Site) (codes : List ℤ) (i : ℕ) (p : Place) : Type 0 where
  pub within : i < length codes
  pub code : p.code ≡ slice_index_or codes i (pos 0)
  pub site : site_of p ≡ slice_index_or sites i no_site
  pub code_range : InRange p.code
  pub low_range : InRange p.low
  pub high_range : InRange p.high

-- p is what a carrier says of place i, or there is no such place
abbrev pub Looked : List Site → List ℤ → ℕ → Option Place → Type 0
Looked sites codes i r = MatchOption r (length codes ≤ i) (Describes sites codes i)

-- one place after another: p is what a carrier says of place i, and the next is i + 1; or there is none from i on
abbrev pub GivesPlace : List Site → List ℤ → ℕ → ℕ → Option Place → Type 0
GivesPlace sites codes i j (Some p) = Describes sites codes i p × (j ≡ i + 1)
GivesPlace sites codes i j None = (length codes ≤ i) × (j ≡ i)

-- the answer to a question for place i: what the place has, or refusal 12 with the height of the carrier asked and
-- the place named
abbrev pub Placed : List Site → List ℤ → ℕ → ℕ → Result Place Refusal → Type 0
Placed sites codes level i r = MatchResult r (Describes sites codes i) (λ e. (length codes ≤ i) × Says e 12 (level ∷ i ∷ []))

-- v may be put at a place: it is from low to high
abbrev pub takes : Site → ℤ → Bool
takes s v = int_le s.low v && int_le v s.high

-- what a put of v at place i answers. 12 with the height of the carrier asked and the place named, if there is no such
-- place; then 13 with height 0 and the seat, if the place does not take v
abbrev pub put_answer : ℕ → List Site → List ℤ → ℕ → ℤ → Answer (Unit {0})
put_answer level sites codes i v =
    tells 12 (level ∷ i ∷ []) (nat_lt i (length codes))
    (tells 13 (0 ∷ seat_at sites i ∷ []) (takes (slice_index_or sites i no_site) v)
    (accepted tt))

-- that a call is accepted, whatever it yields
abbrev pub accepting : {A : Type 0} → Answer A → Answer (Unit {0})
accepting (accepted x) = accepted tt
accepting (refused n values) = refused n values

-- the codes after it: an accepted put makes v code i and leaves the others, a refused one leaves them all
abbrev pub put_codes : List Site → List ℤ → ℕ → ℤ → List ℤ
put_codes sites codes i v = if nat_lt i (length codes) && takes (slice_index_or sites i no_site) v then slice_set codes i v else codes

-- how far one number is from another
abbrev pub distance : ℤ → ℤ → ℕ
distance a b = unsigned_abs (a -ℤ b)

-- from the picture `before` to the picture `after` the sample at the seat of place i moves exactly as far as code i,
-- and no other sample moves
pub record Moves (sites : List Site) (i : ℕ) (codes codes' : List ℤ) (before after : List ℕ) : Type 0 where
  pub seat : distance (pos (slice_index after (seat_at sites i))) (pos (slice_index before (seat_at sites i))) ≡ distance (slice_index_or codes' i (pos 0)) (slice_index_or codes i (pos 0))
  pub others : (k : ℕ) → (k ≢ seat_at sites i) → slice_index after k ≡ slice_index before k

-- what a put of v at place i answers and does
pub record Puts (level : ℕ) (sites : List Site) (i : ℕ) (v : ℤ) (codes codes' : List ℤ) (before after : List ℕ) (r : Result (Unit {0}) Refusal) : Type 0 where
  pub says : answer r ≡ put_answer level sites codes i v
  pub code : codes' ≡ put_codes sites codes i v
  pub moves : Moves sites i codes codes' before after
