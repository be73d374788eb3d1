-- `reading` accepts a file with a header exactly if the file is a picture with that header. Assumes nothing.
use Rattle.std.proofs.Common.{◌≡◌, ℕ, ◌+◌, ◌-◌, ◌*◌, ◌≤◌, Bool, true, false, if◌then◌else◌, ◌&&◌, nat_lt, ◌==◌, nat_le, List, [], ◌∷◌, ◌++◌, length, take, drop, Some, None, Option, sym, refl, ap, ◌∙◌, subst, one-add, arith, length-append, take-append-drop}
use Rattle.std.specs.List.{position_or_len, AllByRecursion}
use Rattle.std.proofs.lemmas.Bool.Decides.{nat_tests}
use Rattle.std.proofs.lemmas.Bool.{le-ltb}
use Rattle.refusal.specs.Answers.{Answer, accepted, given}
use Rattle.netpbm.specs.declared.Header.{Header}
use Rattle.netpbm.specs.Accepting.{AcceptedPictures}
use Rattle.netpbm.specs.Bytes.{white}
use Rattle.netpbm.specs.File.{Magic, grey, colour, IsPicture}
use Rattle.netpbm.specs.Reading.{channels, number, first_above, ends_with, side, asked, reading}
use Rattle.netpbm.proofs.Numerals.{number_sound, number_complete, gap_begins, white_no_digit}

-- the header that is accepted
abbrev pub header : ℕ → ℕ → ℕ → ℕ → ℕ → Header
header all c w h m = record { channels = c; width = w; height = h; maximum = m; length = all - w * h * c }

-- the numbers of a file: its channels, width, height and maximum, and the bytes after each of the last three
pub record Numbered (file : List ℕ) (c w h m : ℕ) (r₁ r₂ r₃ : List ℕ) : Type 0 where
  pub has_channels : channels file ≡ Some c
  pub has_width : number (drop 2 file) ≡ Some (w, r₁)
  pub has_height : number r₁ ≡ Some (h, r₂)
  pub has_maximum : number r₂ ≡ Some (m, r₃)

-- once the numbers are known, the other questions decide
pub reading_asks : (file : List ℕ) (c w h m : ℕ) (r₁ r₂ r₃ : List ℕ) → Numbered file c w h m r₁ r₂ r₃ → reading file ≡ asked (length file) c w h m r₃
reading_asks file c w h m r₁ r₂ r₃ n = rw (n.has_channels, n.has_width, n.has_height, n.has_maximum)

-- a question that yielded a value, and did not refuse
given_passed : {A B : Type 0} (n : ℕ) (o : Option A) (next : A → Answer B) (b : B) → given n o next ≡ accepted b → (x : A) × (o ≡ Some x) × (next x ≡ accepted b)
given_passed n None next b e = cc
given_passed n (Some x) next b e = (x, refl, e)

-- channels that are read come from such first two bytes, and such bytes give them
channels_sound : (file : List ℕ) (c : ℕ) → channels file ≡ Some c → Magic (take 2 file) c
channels_sound [] c e = cc
channels_sound (a ∷ []) c e = cc
channels_sound (a ∷ b ∷ rest) c e = go (a == 80 && b == 53) (a == 80 && b == 54) refl refl e
  where
    go : (g k : Bool) → (a == 80 && b == 53) ≡ g → (a == 80 && b == 54) ≡ k → (if g then Some 1 else if k then Some 3 else None) ≡ Some c → Magic (a ∷ b ∷ []) c
    go true k p q e = let is : (a ≡ 80) × (b ≡ 53) × (c ≡ 1) = (grind (arith, nat_tests), grind (arith, nat_tests), cc) in rw (is.0, is.1, is.2) grey
    go false true p q e = let is : (a ≡ 80) × (b ≡ 54) × (c ≡ 3) = (grind (arith, nat_tests), grind (arith, nat_tests), cc) in rw (is.0, is.1, is.2) colour
    go false false p q e = cc

channels_complete : {magic : List ℕ} {c : ℕ} (rest : List ℕ) → Magic magic c → (channels (magic ++ rest) ≡ Some c) × (drop 2 (magic ++ rest) ≡ rest)
channels_complete rest grey = (refl, refl)
channels_complete rest colour = (refl, refl)

-- no sample is passed over as low exactly if none is above the maximum
all_low : (m : ℕ) (xs : List ℕ) → length xs ≤ position_or_len (λ s. nat_lt m s) xs → AllByRecursion (λ s. s ≤ m) xs
all_low m [] e = tt
all_low m (x ∷ xs) e = (grind (arith, nat_tests), all_low m xs (grind (arith, nat_tests)))

low_all : (m : ℕ) (xs : List ℕ) → AllByRecursion (λ s. s ≤ m) xs → position_or_len (λ s. nat_lt m s) xs ≡ length xs
low_all m [] h = refl
low_all m (x ∷ xs) h = rw (le-ltb m x h.0, low_all m xs h.1, one-add (length xs))

-- the same of the first sample above it
above_sound : (m : ℕ) (xs : List ℕ) → first_above m xs ≡ None → AllByRecursion (λ s. s ≤ m) xs
above_sound m xs e = all_low m xs (grind (arith, nat_tests))

above_complete : (m : ℕ) (xs : List ℕ) → AllByRecursion (λ s. s ≤ m) xs → first_above m xs ≡ None
above_complete m xs h = let n = low_all m xs h in grind (arith, nat_tests)

-- a white byte, and n samples
pub record Closes (n : ℕ) (bs : List ℕ) : Type 0 where
  pub blank : ℕ
  pub samples : List ℕ
  pub is : bs ≡ blank ∷ samples
  pub is_white : white blank ≡ true
  pub exact : length samples ≡ n

-- where `ends_with` holds, they stand there
pub closes : (n : ℕ) (bs : List ℕ) → ends_with n bs ≡ true → Closes n bs
closes n [] e = cc
closes n (b ∷ bs) e = record { blank = b; samples = bs; is = refl; is_white = grind (arith, nat_tests); exact = grind (arith, nat_tests) }

-- SOUND: a file that is accepted is a picture

-- what the questions found makes a picture
pictured : (file : List ℕ) (c w h m : ℕ) (r₁ r₂ r₃ : List ℕ) → Numbered file c w h m r₁ r₂ r₃
    → (side w && side h) ≡ true → (nat_le 1 m && nat_le m 255) ≡ true → ends_with (w * h * c) r₃ ≡ true → first_above m (drop 1 r₃) ≡ None
    → IsPicture file (header (length file) c w h m)
pictured file c w h m r₁ r₂ r₃ n sides top ended none =
    let a = number_sound (drop 2 file) w r₁ n.has_width in
    let b = number_sound r₁ h r₂ n.has_height in
    let d = number_sound r₂ m r₃ n.has_maximum in
    let z = closes (w * h * c) r₃ ended in
    let whole : file ≡ take 2 file ++ (a.gap ++ (a.figures ++ (b.gap ++ (b.figures ++ (d.gap ++ (d.figures ++ (z.blank ∷ z.samples))))))) =
    sym (take-append-drop 2 file) ∙ ap (λ l. take 2 file ++ l) (a.is ∙ ap (λ l. a.gap ++ (a.figures ++ l)) (b.is ∙ ap (λ l. b.gap ++ (b.figures ++ l)) (d.is ∙ ap (λ l. d.gap ++ (d.figures ++ l)) z.is))) in
    record {
      magic = take 2 file;
      gap₁ = a.gap;
      width = a.figures;
      gap₂ = b.gap;
      height = b.figures;
      gap₃ = d.gap;
      maximum = d.figures;
      samples = z.samples;
      blank = z.blank;
      whole = whole;
      is_magic = channels_sound file c n.has_channels;
      is_gap₁ = a.is_gap;
      is_width = a.numeral;
      is_gap₂ = b.is_gap;
      is_height = b.numeral;
      is_gap₃ = d.is_gap;
      is_maximum = d.numeral;
      is_white = z.is_white;
      width_low = grind (arith, nat_tests);
      width_high = grind (arith, nat_tests);
      height_low = grind (arith, nat_tests);
      height_high = grind (arith, nat_tests);
      maximum_low = grind (arith, nat_tests);
      maximum_high = grind (arith, nat_tests);
      exact = z.exact;
      none_above = above_sound m z.samples (ap (λ l. first_above m (drop 1 l)) (sym z.is) ∙ none);
      header_length = omega (arith, z.exact, simp length-append at (ap length whole));
    }

-- a file whose questions after the numbers all hold
asked_sound : (file : List ℕ) (c w h m : ℕ) (r₁ r₂ r₃ : List ℕ) → Numbered file c w h m r₁ r₂ r₃ → (hd : Header) → asked (length file) c w h m r₃ ≡ accepted hd → IsPicture file hd
asked_sound file c w h m r₁ r₂ r₃ n hd e =
    let sides : (side w && side h) ≡ true = grind (arith, nat_tests) in
    let top : (nat_le 1 m && nat_le m 255) ≡ true = grind (arith, nat_tests) in
    let ended : ends_with (w * h * c) r₃ ≡ true = grind (arith, nat_tests) in
    let none : first_above m (drop 1 r₃) ≡ None = grind (arith, nat_tests) in
    let same : header (length file) c w h m ≡ hd = grind (arith, nat_tests) in
    subst (IsPicture file) same (pictured file c w h m r₁ r₂ r₃ n sides top ended none)

-- a file that is accepted
pub reading_sound : (file : List ℕ) (hd : Header) → reading file ≡ accepted hd → IsPicture file hd
reading_sound file hd e =
    let c = given_passed 14 (channels file) _ hd e in
    let w = given_passed 15 (number (drop 2 file)) _ hd c.2 in
    let h = given_passed 15 (number w.0.1) _ hd w.2 in
    let m = given_passed 15 (number h.0.1) _ hd h.2 in
    let numbers : Numbered file c.0 w.0.0 h.0.0 m.0.0 w.0.1 h.0.1 m.0.1 =
    record { has_channels = c.1; has_width = w.1; has_height = h.1; has_maximum = m.1 } in
    asked_sound file c.0 w.0.0 h.0.0 m.0.0 w.0.1 h.0.1 m.0.1 numbers hd m.2

-- COMPLETE: a picture is accepted

-- the questions after the numbers, where each holds
passed : (hd : Header) (all blank : ℕ) (samples : List ℕ)
    → white blank ≡ true → (1 ≤ hd.width) × (hd.width ≤ 4096) → (1 ≤ hd.height) × (hd.height ≤ 4096) → (1 ≤ hd.maximum) × (hd.maximum ≤ 255)
    → length samples ≡ hd.width * hd.height * hd.channels → AllByRecursion (λ s. s ≤ hd.maximum) samples → hd.length + length samples ≡ all
    → asked all hd.channels hd.width hd.height hd.maximum (blank ∷ samples) ≡ accepted hd
passed hd all blank samples wb w h m exact low long =
    let none : first_above hd.maximum samples ≡ None = above_complete hd.maximum samples low in
    grind (arith, nat_tests)

-- a picture
pub reading_complete : (file : List ℕ) (hd : Header) → IsPicture file hd → reading file ≡ accepted hd
reading_complete file hd p =
    let r₃ : List ℕ = p.blank ∷ p.samples in
    let r₂ : List ℕ = p.gap₃ ++ (p.maximum ++ r₃) in
    let r₁ : List ℕ = p.gap₂ ++ (p.height ++ r₂) in
    let r₀ : List ℕ = p.gap₁ ++ (p.width ++ r₁) in
    let front = channels_complete r₀ p.is_magic in
    let numbers : Numbered file hd.channels hd.width hd.height hd.maximum r₁ r₂ r₃ = record {
      has_channels = ap channels p.whole ∙ front.0;
      has_width = ap number (ap (drop 2) p.whole ∙ front.1) ∙ number_complete p.gap₁ p.width r₁ hd.width p.is_gap₁ p.is_width (gap_begins (p.height ++ r₂) p.is_gap₂).1;
      has_height = number_complete p.gap₂ p.height r₂ hd.height p.is_gap₂ p.is_height (gap_begins (p.maximum ++ r₃) p.is_gap₃).1;
      has_maximum = number_complete p.gap₃ p.maximum r₃ hd.maximum p.is_gap₃ p.is_maximum (white_no_digit p.blank p.is_white);
    } in
    reading_asks file hd.channels hd.width hd.height hd.maximum r₁ r₂ r₃ numbers
    ∙ passed hd (length file) p.blank p.samples p.is_white (p.width_low, p.width_high) (p.height_low, p.height_high) (p.maximum_low, p.maximum_high) p.exact p.none_above p.header_length

-- both, for an answer that is the file's
pub pictures : (file : List ℕ) → AcceptedPictures file
pictures file hd = (reading_sound file hd, reading_complete file hd)
