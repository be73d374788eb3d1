-- What a picture file is, as a relation between its bytes and its numbers. Assumes nothing.
use Rattle.std.specs.Prelude.{◌≡◌, ℕ, ◌+◌, ◌*◌, ◌≤◌, true, List, [], ◌∷◌, ◌++◌, length, ◌≢◌}
use Rattle.std.specs.List.{AllByRecursion}
use Rattle.netpbm.specs.declared.Header.{Header}
use Rattle.netpbm.specs.Bytes.{white, digit, value}

-- a white byte, or a comment: byte 35, any bytes but 10, and byte 10
pub data Blank : List ℕ → Type 0 where
  space : (b : ℕ) → white b ≡ true → Blank (b ∷ [])
  comment : (text : List ℕ) → AllByRecursion (λ b. b ≢ 10) text → Blank (35 ∷ (text ++ 10 ∷ []))

-- one or more of these
pub data Gap : List ℕ → Type 0 where
  one : {b : List ℕ} → Blank b → Gap b
  more : {b g : List ℕ} → Blank b → Gap g → Gap (b ++ g)

-- one to five digits that write the number n
pub record Numeral (ds : List ℕ) (n : ℕ) : Type 0 where
  pub digits : AllByRecursion (λ d. digit d ≡ true) ds
  pub some : 1 ≤ length ds
  pub few : length ds ≤ 5
  pub written : value ds ≡ n

-- the two bytes that a file begins with, and its channels
pub data Magic : List ℕ → ℕ → Type 0 where
  grey : Magic (80 ∷ 53 ∷ []) 1
  colour : Magic (80 ∷ 54 ∷ []) 3

-- The file is: magic, gap, width, gap, height, gap, maximum, white byte, samples; its numbers are within their bounds.
pub record IsPicture (file : List ℕ) (h : Header) : Type 0 where
  pub magic : List ℕ
  pub gap₁ : List ℕ
  pub width : List ℕ
  pub gap₂ : List ℕ
  pub height : List ℕ
  pub gap₃ : List ℕ
  pub maximum : List ℕ
  pub samples : List ℕ
  pub blank : ℕ
  pub whole : file ≡ magic ++ (gap₁ ++ (width ++ (gap₂ ++ (height ++ (gap₃ ++ (maximum ++ (blank ∷ samples)))))))
  pub is_magic : Magic magic h.channels
  pub is_gap₁ : Gap gap₁
  pub is_width : Numeral width h.width
  pub is_gap₂ : Gap gap₂
  pub is_height : Numeral height h.height
  pub is_gap₃ : Gap gap₃
  pub is_maximum : Numeral maximum h.maximum
  pub is_white : white blank ≡ true
  pub width_low : 1 ≤ h.width
  pub width_high : h.width ≤ 4096
  pub height_low : 1 ≤ h.height
  pub height_high : h.height ≤ 4096
  pub maximum_low : 1 ≤ h.maximum
  pub maximum_high : h.maximum ≤ 255
  pub exact : length samples ≡ h.width * h.height * h.channels
  pub none_above : AllByRecursion (λ s. s ≤ h.maximum) samples
  pub header_length : h.length + length samples ≡ length file
