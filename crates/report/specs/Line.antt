-- The line that the program writes. Assumes nothing.
use Rattle.std.specs.Prelude.{ℕ, List, [], ◌∷◌, ◌++◌, codes, decimal}
use Rattle.refusal.specs.Answers.{Answer, accepted, refused}
use Rattle.tally.specs.declared.Surveyed.{Surveyed}
use Rattle.tally.specs.Text.{surveyed_text}

-- ended by a line feed
abbrev pub line_of : Answer Surveyed → List ℕ
line_of (accepted s) = surveyed_text s ++ (10 ∷ [])
line_of (refused n told) = codes "refused " ++ (decimal n ++ (10 ∷ []))
