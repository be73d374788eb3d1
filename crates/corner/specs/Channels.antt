-- How many channels a picture has. Assumes nothing.
use Rattle.std.specs.Prelude.{ℕ, if◌then◌else◌, ◌==◌}
use Rattle.corner.specs.declared.Channels.{Channels}
use Rattle.corner.specs.declared.Channels.TheVariants.{One, Three}

-- a channel count that is not 3 counts as 1
abbrev pub counted : ℕ → ℕ
counted n = if n == 3 then 3 else 1

abbrev pub channel_count : Channels → ℕ
channel_count One = 1
channel_count Three = 3
