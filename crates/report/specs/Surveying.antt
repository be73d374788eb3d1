-- What the survey of an input answers. Assumes nothing.
use Rattle.std.specs.Prelude.{ℕ, List, length, drop, nat_le}
use Rattle.refusal.specs.Answers.{Answer, accepted, refused, holds}
use Rattle.netpbm.specs.declared.Header.{Header}
use Rattle.netpbm.specs.Reading.{reading}
use Rattle.carrier.specs.Plain.{plain_codes, plain_rest, plain_sites}
use Rattle.tally.specs.declared.Surveyed.{Surveyed}
use Rattle.tally.specs.Choice.{surveyed}

-- the survey of the plain carrier of a picture, by its maximum and its samples
abbrev pub plain_survey : ℕ → List ℕ → Surveyed
plain_survey maximum samples = surveyed 255 (plain_sites (plain_rest maximum samples)) (plain_codes samples)

-- the answer for a file whose header was read
abbrev pub after_header : List ℕ → Answer Header → Answer Surveyed
after_header file (accepted h) = accepted (plain_survey h.maximum (drop h.length file))
after_header file (refused n told) = refused n told

-- question 20, and then those of the picture file
abbrev pub surveying : List ℕ → Answer Surveyed
surveying input = holds 20 (nat_le (length input) 65536) (after_header input (reading input))
