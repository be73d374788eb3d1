-- Each is needed: without it the check leaves its goal open.
use Rattle.std.proofs.Common.{rules}
use Rattle.carrier.proofs.PlainPlaces.{described}
use Rattle.carrier.proofs.plain.PlainCarrier.get.Goals as goal

pub returns : goal.returns
returns g c =
    let there = c.in_ok-v.ensures in
    described _ _ _ _ _ c.if-i-ge-MOST.false there.0 there.1 (search rules) (search rules) c.place_of.ensures.code (search rules)
