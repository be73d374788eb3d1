-- What a survey is shown as. Assumes nothing.
use Rattle.std.specs.Prelude.{ℕ, List, ◌++◌, codes, decimal}
use Rattle.std.specs.Fmt.{signed_decimal}
use Rattle.tally.specs.declared.Surveyed.{Surveyed}

-- the text that `{}` writes; minus is written -
abbrev pub surveyed_text : Surveyed → List ℕ
surveyed_text s =
    codes "peak " ++ (signed_decimal s.pair.peak
    ++ (codes " zero " ++ (signed_decimal s.pair.zero
    ++ (codes " slots " ++ (decimal s.counts.slots
    ++ (codes " map " ++ decimal s.counts.map_bits))))))
