-- How the machine that reads a number goes from state to state. Assumes nothing.
use Rattle.std.specs.Prelude.{ℕ, ◌+◌, ◌-◌, ◌*◌, ◌^◌, ◌<◌, ◌≤◌, if◌then◌else◌, ◌==◌, nat_lt, ⊤}
use Rattle.netpbm.specs.declared.machine.State.{State}
use Rattle.netpbm.specs.declared.machine.State.TheVariants.{Before, Gap, Comment, Digits, Ended, Failed}
use Rattle.netpbm.specs.Bytes.{white, digit}

-- the state after the next byte b
abbrev pub stepped : State → ℕ → State
stepped Before b = if white b then Gap else if b == 35 then Comment else Failed
stepped Gap b = if white b then Gap else if b == 35 then Comment else if digit b then Digits (b - 48) 1 else Failed
stepped Comment b = if b == 10 then Gap else Comment
stepped (Digits v k) b = if digit b then (if nat_lt k 5 then Digits (10 * v + (b - 48)) (k + 1) else Failed) else Ended v
stepped (Ended v) b = Ended v
stepped Failed b = Failed

-- the digits read so far are at most five, and write a number below ten to the power of their count
abbrev pub Sound : State → Type 0
Sound (Digits v k) = (k ≤ 5) × (v < 10 ^ k)
Sound s = ⊤
