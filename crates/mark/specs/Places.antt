-- What a mark with the pair p and z makes of one place, by its site and its code. Assumes nothing.
use Rattle.std.specs.Prelude.{Bool, if◌then◌else◌, ◌&&◌, ℤ, pos, ◌+ℤ◌, ◌-ℤ◌, int_le, int_lt}
use Rattle.std.specs.Int.{int_min}
use Rattle.carrier.specs.Meaning.{Site}

-- two whole numbers are the same
abbrev pub same : ℤ → ℤ → Bool
same a b = int_le a b && int_le b a

-- the top of a place: z, or its high where that is lower
abbrev pub top_of : ℤ → Site → ℤ
top_of z s = int_min z s.high

-- the mark may move a place whose code lies from p to its top, if p may stand there and may rise by one
abbrev pub is_active : ℤ → ℤ → Site → ℤ → Bool
is_active p z s c = int_le s.low p && int_lt p s.high && int_le p c && int_le c (top_of z s)

-- the code, with the top taken for the value below it
abbrev pub flat_of : ℤ → Site → ℤ → ℤ
flat_of z s c = if same c (top_of z s) then c -ℤ pos 1 else c

-- an active place at its top
abbrev pub is_at_top : ℤ → ℤ → Site → ℤ → Bool
is_at_top p z s c = is_active p z s c && same c (top_of z s)

-- an active place that carries a payload bit
abbrev pub is_slot : ℤ → ℤ → Site → ℤ → Bool
is_slot p z s c = is_active p z s c && same (flat_of z s c) p

-- an active place whose flat is one below its top: the map tells whether its code was the top
abbrev pub is_mapped : ℤ → ℤ → Site → ℤ → Bool
is_mapped p z s c = is_active p z s c && same (flat_of z s c +ℤ pos 1) (top_of z s)
