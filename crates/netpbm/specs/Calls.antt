-- What inner calls give back, in the terms of `Reading`. Assumes nothing.
use Rattle.std.specs.Prelude.{ℕ, List, drop, Option}
use Rattle.std.specs.Option.{option_map}
use Rattle.std.specs.Borrow.{Bor}
use Rattle.netpbm.specs.Reading.{channels}

-- what was found, and the bytes after it
abbrev pub taken : Option (ℕ × Bor (List ℕ)) → Option (ℕ × List ℕ)
taken found = option_map (λ f. (f.0, f.1.now)) found

-- the channels that a file begins with, and the bytes after its first two
abbrev pub begun : List ℕ → Option (ℕ × List ℕ)
begun file = option_map (λ c. (c, drop 2 file)) (channels file)
