-- What is answered to a file: the questions one after another, until one fails.
-- Assumes nothing.
use Rattle.std.specs.Prelude.{ℕ, ◌-◌, ◌*◌, Bool, true, false, if◌then◌else◌, not, ◌&&◌, ◌||◌, List, [], ◌∷◌, length, take, drop, Some, None, Option, ◌==◌, nat_lt, nat_le}
use Rattle.std.specs.List.{prefix_len, position}
use Rattle.refusal.specs.Answers.{Answer, accepted, given, holds, none_found}
use Rattle.netpbm.specs.declared.Header.{Header}
use Rattle.netpbm.specs.Bytes.{white, digit, value}

-- the channels of a file that begins with "P5" or "P6"
abbrev pub channels : List ℕ → Option ℕ
channels [] = None
channels (a ∷ []) = None
channels (a ∷ b ∷ rest) = if a == 80 && b == 53 then Some 1 else if a == 80 && b == 54 then Some 3 else None

-- the bytes after the white bytes and comments at the front; the flag says that they begin inside a comment
unfoldable pub after_gap : Bool → List ℕ → List ℕ
after_gap inside [] = []
after_gap true (b ∷ bs) = after_gap (not (b == 10)) bs
after_gap false (b ∷ bs) = if white b then after_gap false bs else if b == 35 then after_gap true bs else b ∷ bs

-- a white byte or a comment stands at the front
abbrev pub begins_gap : List ℕ → Bool
begins_gap [] = false
begins_gap (b ∷ bs) = white b || b == 35

-- all the digits at the front, if they are one to five: their number and the bytes after them
unfoldable pub digits : List ℕ → Option (ℕ × List ℕ)
digits bs = let n = prefix_len digit bs in if nat_le 1 n && nat_le n 5 then Some (value (take n bs), drop n bs) else None

-- a gap and then a number: the number and the bytes after it
unfoldable pub number : List ℕ → Option (ℕ × List ℕ)
number bs = if begins_gap bs then digits (after_gap false bs) else None

-- the number of the first sample above the maximum
abbrev pub first_above : ℕ → List ℕ → Option ℕ
first_above maximum samples = position (λ s. nat_lt maximum s) samples

-- the bytes are a white byte and n samples, and no more
abbrev pub ends_with : ℕ → List ℕ → Bool
ends_with n [] = false
ends_with n (b ∷ samples) = white b && length samples == n

-- a width or a height within its bounds
abbrev pub side : ℕ → Bool
side n = nat_le 1 n && nat_le n 4096

-- questions 16 to 19, of the numbers and the bytes after them, in a file of `all` bytes
abbrev pub asked : ℕ → ℕ → ℕ → ℕ → ℕ → List ℕ → Answer Header
asked all c w h m rest =
    holds 16 (side w && side h) (
    holds 17 (nat_le 1 m && nat_le m 255) (
    holds 18 (ends_with (w * h * c) rest) (
    none_found 19 (first_above m (drop 1 rest)) (
    accepted (record { channels = c; width = w; height = h; maximum = m; length = all - w * h * c })))))

-- all questions, 14 first
abbrev pub reading : List ℕ → Answer Header
reading file =
    given 14 (channels file) (λ c.
    given 15 (number (drop 2 file)) (λ w.
    given 15 (number w.1) (λ h.
    given 15 (number h.1) (λ m.
    asked (length file) c w.0 h.0 m.0 m.1))))
