-- Each is needed: without it the check leaves its goal open.
use Rattle.std.proofs.Common.{rules}
use Rattle.netpbm.proofs.Running.{reads_on}
use Rattle.netpbm.proofs.machine.number.Goals as goal

pub loop-at-preserved : goal.loop-at-preserved
loop-at-preserved c = search (rules, reads_on)
