-- Each is needed: without it the check leaves its goal open.
use Rattle.std.proofs.Common.{rules}
use Rattle.layer.proofs.TurnPuts.{turn_puts}
use Rattle.layer.proofs.turn.Turn.put_below.Goals as goal

pub returns-clause-puts : goal.returns-clause-puts
returns-clause-puts g c =
    let there = c.requires.place in
    turn_puts _ _ c.requires.value (search rules) _ _ _ _ _ _ _ _ there.0 there.1 (search rules)
