-- Each is needed: without it the check leaves its goal open.
use Rattle.layer.proofs.TurnPlaces.{described}
use Rattle.layer.proofs.turn.TurnCarrier.get.Goals as goal

pub returns : goal.returns
returns g c =
    let there = c.in_ok-at.ensures in
    let shown = c.turned.ensures in
    described _ _ _ _ _ there (shown.code there.code_range) (shown.site there.low_range there.high_range)
