-- Each is needed: without it the check leaves its goal open.
use Rattle.std.proofs.Common.{rules, arith}
use Rattle.tally.proofs.Choosing.{is_peak, is_zero}
use Rattle.tally.proofs.pair_for.Goals as goal

pub returns-clause-is_peak : goal.returns-clause-is_peak
returns-clause-is_peak g c = is_peak 255 (omega arith) _ _ _ (search rules)

pub returns-clause-is_zero : goal.returns-clause-is_zero
returns-clause-is_zero g c = is_zero 255 (omega arith) _ _ _ _ (search rules) (search rules)
