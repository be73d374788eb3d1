-- What every layer has over the carrier below. Assumes nothing.
use Rattle.std.specs.Prelude.{ℕ, ◌+◌, min}

-- the height of a layer over a carrier of height n: one more, up to 255
abbrev pub raised : ℕ → ℕ
raised n = min 255 (n + 1)
