-- `number` reads a gap and then a numeral, and it reads every gap and numeral. Assumes nothing.
use Rattle.std.proofs.Common.{◌≡◌, ℕ, ◌+◌, Bool, true, false, if◌then◌else◌, not, ◌&&◌, ◌||◌, ◌==◌, nat_le, ◌⊎◌, List, [], ◌∷◌, ◌++◌, length, take, drop, Some, sym, refl, ap, ◌∙◌, subst, inl, inr, ⊎_elim, append_assoc, append-nil, one-add, arith, length-append, take-append-drop}
use Rattle.std.specs.List.{prefix_len, AllByRecursion}
use Rattle.std.proofs.lemmas.List.{take_at, drop_at}
use Rattle.std.proofs.lemmas.Bool.{eqb-true, eqb-false, ne_eqb, cond_both, or_parts, or_left, false≢true}
use Rattle.std.proofs.lemmas.List.Folds.{length-prefix_len}
use Rattle.std.proofs.lemmas.Option.{cond_some}
use Rattle.std.proofs.lemmas.Bool.Decides.{nat_tests}
use Rattle.netpbm.specs.Bytes.{white, digit, value}
use Rattle.netpbm.specs.File.{Blank, space, comment, Gap, one, more, Numeral}
use Rattle.netpbm.specs.Reading.{after_gap, digits, number, begins_gap}

-- a white byte is no digit
pub white_no_digit : (b : ℕ) → white b ≡ true → digit b ≡ false
white_no_digit b w = grind (arith, nat_tests)

-- a digit begins no gap
digit_no_gap : (b : ℕ) → digit b ≡ true → (white b || b == 35) ≡ false
digit_no_gap b d = grind (arith, nat_tests)

-- SOUND: what is read stands there

-- the bytes counted as digits are digits
leading_digits : (bs : List ℕ) → AllByRecursion (λ d. digit d ≡ true) (take (prefix_len digit bs) bs)
leading_digits [] = tt
leading_digits (b ∷ bs) =
    cond_both (digit b) (1 + prefix_len digit bs) 0 (λ n. AllByRecursion (λ d. digit d ≡ true) (take n (b ∷ bs)))
    (λ e. rw (one-add (prefix_len digit bs)) (e, leading_digits bs))
    (λ e. tt)

-- bs begins with a numeral of v, and the rest follows
pub record Begins (bs : List ℕ) (v : ℕ) (rest : List ℕ) : Type 0 where
  pub figures : List ℕ
  pub is : bs ≡ figures ++ rest
  pub numeral : Numeral figures v

-- digits that are read stand there
digits_sound : (bs : List ℕ) (v : ℕ) (rest : List ℕ) → digits bs ≡ Some (v, rest) → Begins bs v rest
unfolding digits
digits_sound bs v rest e =
    let n : ℕ = prefix_len digit bs in
    let long : length (take n bs) ≡ n = length-prefix_len digit bs in
    let found = cond_some (nat_le 1 n && nat_le n 5) (value (take n bs), drop n bs) (v, rest) e in
    record {
      figures = take n bs;
      is = sym (take-append-drop n bs) ∙ ap (λ p. take n bs ++ p.1) found.1;
      numeral = record {
        digits = leading_digits bs;
        some = grind (arith, nat_tests, found.0);
        few = grind (arith, nat_tests, found.0);
        written = ap (λ p. p.0) found.1;
      };
    }

-- any number of white bytes and comments
abbrev Blanks : List ℕ → Type 0
Blanks g = (g ≡ []) ⊎ Gap g

-- one blank more makes a gap
blanks_more : {b g : List ℕ} → Blank b → Blanks g → Gap (b ++ g)
blanks_more {b} {g} x (inl e) = subst Gap (sym (ap (λ l. b ++ l) e ∙ append-nil b)) (one x)
blanks_more x (inr y) = more x y

-- bs is blanks and then the rest; inside a comment, its end comes first
abbrev Skips : Bool → List ℕ → List ℕ → Type 0
Skips false bs rest = (g : List ℕ) × (bs ≡ g ++ rest) × Blanks g
Skips true bs rest = (text : List ℕ) × (g : List ℕ) × AllByRecursion (λ b. b ≡ 10 → ⊥) text × (bs ≡ text ++ 10 ∷ (g ++ rest)) × Blanks g

-- what `after_gap` passes over is blanks, or it comes to the end
abbrev Passes : Bool → List ℕ → Type 0
Passes inside bs = (after_gap inside bs ≡ []) ⊎ Skips inside bs (after_gap inside bs)

-- a byte inside a comment
in_comment : (b : ℕ) (bs : List ℕ) (t : Bool) → (b == 10) ≡ t → Passes false bs → Passes true bs → (after_gap (not t) bs ≡ []) ⊎ Skips true (b ∷ bs) (after_gap (not t) bs)
in_comment b bs true e (inl x) y = inl x
in_comment b bs true e (inr x) y = inr ([], x.0, tt, (ap (λ c. c ∷ bs) (eqb-true b 10 e) ∙ ap (λ l. 10 ∷ l) x.1), x.2)
in_comment b bs false e x (inl y) = inl y
in_comment b bs false e x (inr y) = inr (b ∷ y.0, y.1, (eqb-false b 10 e, y.2), ap (λ l. b ∷ l) y.3, y.4)

-- a byte outside a comment
outside : (b : ℕ) (bs : List ℕ) (w h : Bool) → white b ≡ w → (b == 35) ≡ h → Passes false bs → Passes true bs
    → let rest = if w then after_gap false bs else if h then after_gap true bs else b ∷ bs in (rest ≡ []) ⊎ Skips false (b ∷ bs) rest
outside b bs true h e f (inl x) y = inl x
outside b bs true h e f (inr x) y = inr (b ∷ x.0, ap (λ l. b ∷ l) x.1, inr (blanks_more (space b e) x.2))
outside b bs false true e f x (inl y) = inl y
outside b bs false true e f x (inr y) = inr (
  (35 ∷ (y.0 ++ 10 ∷ [])) ++ y.1,
  ap (λ c. c ∷ bs) (eqb-true b 35 f) ∙ ap (λ l. 35 ∷ l) (y.3 ∙ sym (append_assoc y.0 (10 ∷ []) (y.1 ++ after_gap true bs)) ∙ sym (append_assoc (y.0 ++ 10 ∷ []) y.1 (after_gap true bs))),
  inr (blanks_more (comment y.0 y.2) y.4),
)
outside b bs false false e f x y = inr ([], refl, inl refl)

-- any bytes
skips : (inside : Bool) (bs : List ℕ) → Passes inside bs
unfolding after_gap
skips inside [] = inl refl
skips true (b ∷ bs) = in_comment b bs (b == 10) refl (skips false bs) (skips true bs)
skips false (b ∷ bs) = outside b bs (white b) (b == 35) refl refl (skips false bs) (skips true bs)

-- bs begins with a gap and a numeral of v, and the rest follows
pub record Opens (bs : List ℕ) (v : ℕ) (rest : List ℕ) : Type 0 where
  pub gap : List ℕ
  pub figures : List ℕ
  pub is : bs ≡ gap ++ (figures ++ rest)
  pub is_gap : Gap gap
  pub numeral : Numeral figures v

-- a numeral is no gap
numeral_no_gap : (ds rest : List ℕ) (v : ℕ) → Numeral ds v → begins_gap (ds ++ rest) ≡ false
numeral_no_gap [] rest v n = absurd (omega (arith, n.some))
numeral_no_gap (d ∷ ds) rest v n = digit_no_gap d n.digits.0

-- nor is it nothing
not_empty : (ds rest : List ℕ) (v : ℕ) → Numeral ds v → ds ++ rest ≡ [] → ⊥
not_empty ds rest v n e = omega (arith, n.some, sym (length-append ds rest) ∙ ap length e)

-- a numeral after what is passed over, where a gap begins
opened : (bs : List ℕ) (v : ℕ) (rest : List ℕ) → begins_gap bs ≡ true → Begins (after_gap false bs) v rest → Passes false bs → Opens bs v rest
opened bs v rest t b (inl e) = absurd (not_empty b.figures rest v b.numeral (sym b.is ∙ e))
opened bs v rest t b (inr s) =
    let whole : bs ≡ s.0 ++ (b.figures ++ rest) = s.1 ∙ ap (λ l. s.0 ++ l) b.is in
    ⊎_elim
    (λ e. absurd (false≢true (sym (numeral_no_gap b.figures rest v b.numeral) ∙ ap begins_gap (sym (whole ∙ ap (λ g. g ++ (b.figures ++ rest)) e)) ∙ t)))
    (λ g. record { gap = s.0; figures = b.figures; is = whole; is_gap = g; numeral = b.numeral })
    s.2

-- a number that is read stands there, after a gap
pub number_sound : (bs : List ℕ) (v : ℕ) (rest : List ℕ) → number bs ≡ Some (v, rest) → Opens bs v rest
unfolding number
number_sound bs v rest e =
    let front : begins_gap bs ≡ true = grind (arith, nat_tests) in
    let after : digits (after_gap false bs) ≡ Some (v, rest) = grind (arith, nat_tests) in
    opened bs v rest front (digits_sound (after_gap false bs) v rest after) (skips false bs)

-- COMPLETE: what stands there is read

-- no digit stands at the front
abbrev pub Stops : List ℕ → Type 0
Stops [] = Unit {0}
Stops (b ∷ bs) = digit b ≡ false

-- digits are counted up to the rest
leading_all : (ds rest : List ℕ) → AllByRecursion (λ d. digit d ≡ true) ds → Stops rest → prefix_len digit (ds ++ rest) ≡ length ds
leading_all [] [] all stop = refl
leading_all [] (b ∷ bs) all stop = rw stop
leading_all (d ∷ ds) rest all stop = rw (all.0, leading_all ds rest all.1 stop, one-add (length ds))

-- a numeral is read
digits_complete : (ds rest : List ℕ) (v : ℕ) → Numeral ds v → Stops rest → digits (ds ++ rest) ≡ Some (v, rest)
unfolding digits
digits_complete ds rest v n stop =
    let counted : prefix_len digit (ds ++ rest) ≡ length ds = leading_all ds rest n.digits stop in
    let right : (nat_le 1 (length ds) && nat_le (length ds) 5) ≡ true = grind (arith, nat_tests) in
    rw (counted, right, take_at ds rest (length ds) refl, drop_at ds rest (length ds) refl) (ap (λ m. Some (m, rest)) n.written)

-- a comment is passed over up to its end
comment_passed : (text bs : List ℕ) → AllByRecursion (λ b. b ≡ 10 → ⊥) text → after_gap true ((text ++ 10 ∷ []) ++ bs) ≡ after_gap false bs
unfolding after_gap
comment_passed [] bs all = refl
comment_passed (b ∷ text) bs all = ap (λ t. after_gap (not t) ((text ++ 10 ∷ []) ++ bs)) (ne_eqb b 10 all.0) ∙ comment_passed text bs all.1

-- so is each blank, and each gap
blank_passed : {b : List ℕ} (bs : List ℕ) → Blank b → after_gap false (b ++ bs) ≡ after_gap false bs
unfolding after_gap
blank_passed bs (space b w) = rw w
blank_passed bs (comment text all) = comment_passed text bs all

gap_passed : {g : List ℕ} (bs : List ℕ) → Gap g → after_gap false (g ++ bs) ≡ after_gap false bs
gap_passed bs (one x) = blank_passed bs x
gap_passed bs (more {b} {g} x y) = ap (after_gap false) (append_assoc b g bs) ∙ blank_passed (g ++ bs) x ∙ gap_passed bs y

-- where no gap begins, nothing is passed over
nothing_passed : (bs : List ℕ) → begins_gap bs ≡ false → after_gap false bs ≡ bs
unfolding after_gap
nothing_passed [] e = refl
nothing_passed (b ∷ bs) e = let both = or_parts (white b) (b == 35) e in rw (both.0, both.1)

-- a blank begins with a white byte or a comment, and so with no digit
blank_begins : {b : List ℕ} (bs : List ℕ) → Blank b → (begins_gap (b ++ bs) ≡ true) × Stops (b ++ bs)
blank_begins bs (space b w) = (or_left (white b) (b == 35) w, white_no_digit b w)
blank_begins bs (comment text all) = (refl, refl)

-- so does a gap
pub gap_begins : {g : List ℕ} (bs : List ℕ) → Gap g → (begins_gap (g ++ bs) ≡ true) × Stops (g ++ bs)
gap_begins bs (one x) = blank_begins bs x
gap_begins bs (more {b} {g} x y) = let h = blank_begins (g ++ bs) x in rw (append_assoc b g bs) h

-- a number after a gap is read, up to a byte that is no digit
pub number_complete : (g ds rest : List ℕ) (v : ℕ) → Gap g → Numeral ds v → Stops rest → number (g ++ (ds ++ rest)) ≡ Some (v, rest)
unfolding number
number_complete g ds rest v gap n stop =
    rw ((gap_begins (ds ++ rest) gap).0, gap_passed (ds ++ rest) gap, nothing_passed (ds ++ rest) (numeral_no_gap ds rest v n)) (digits_complete ds rest v n stop)
