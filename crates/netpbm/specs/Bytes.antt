-- The bytes of a header: white bytes, digits and the numbers that digits write. Assumes nothing.
use Rattle.std.specs.Prelude.{ℕ, ◌+◌, ◌-◌, ◌*◌, Bool, ◌&&◌, ◌||◌, List, fold, ◌==◌, nat_le}

-- tab, line feed, vertical tab, form feed, carriage return and space
abbrev pub white : ℕ → Bool
white b = (nat_le 9 b && nat_le b 13) || b == 32

-- '0' to '9'
abbrev pub digit : ℕ → Bool
digit b = nat_le 48 b && nat_le b 57

-- the number that digits write, the highest first
abbrev pub value : List ℕ → ℕ
value ds = fold (λ n d. 10 * n + (d - 48)) 0 ds
