use Rattle.netpbm.proofs.Running.{ReadsOn}
use Rattle.netpbm.proofs.machine.number.Given as goal

abbrev pub invariant-loop-at : goal.invariant-loop-at
invariant-loop-at l = ReadsOn l.machine.state l.at l.bytes
