-- Each is needed: without it the check leaves its goal open.
use Rattle.std.proofs.Common.{sym, ◌∙◌, arith}
use Rattle.tally.proofs.Best.{turn_takes, turn_keeps, found}
use Rattle.tally.proofs.first_best.Goals as goal
use Rattle.tally.proofs.first_best.Goals.{then-better, else-better}

pub loop-i-preserved : goal.loop-i-preserved
loop-i-preserved g c =
    let inv = c.loop-i.invariant in
    let here = c.loop-i-test.true in
    elim c.if-better.branch [
      | then-better w ↦ (omega arith, λ o ranks told _. rw w.best-is (turn_takes o ranks _ _ _ (inv.1 o ranks told) inv.0 here (sym (told _ _ _ c.better.ensures) ∙ w.if-better.true)))
      | else-better w ↦ (omega arith, λ o ranks told _. rw w.best-is (turn_keeps o ranks _ _ _ (inv.1 o ranks told) inv.0 here (sym (told _ _ _ c.better.ensures) ∙ w.if-better.false)))
    ]

pub returns-clause-value : goal.returns-clause-value
returns-clause-value g c o ranks told =
    let inv = c.loop-i.invariant in
    found o ranks _ _ _ (inv.1 o ranks told) inv.0 c.loop-i.auto.i-end c.loop-i-test.false
