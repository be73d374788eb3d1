-- Each is needed: without it the check leaves its goal open.
use Rattle.std.proofs.Common.{◌<◌, subst, rules}
use Rattle.corner.proofs.CornerPlaces.{seat_in, left_in, above_in, diagonal_in, described}
use Rattle.corner.proofs.corner.CornerCarrier.get.Goals as goal

pub prediction-m-requires : goal.prediction-m-requires
prediction-m-requires g c =
    let at = rw c.used.ensures at c.in_ok-spot.ensures in
    record { left = left_in _ _ _ _ _ at; above = above_in _ _ _ _ _ at; diagonal = diagonal_in _ _ _ _ _ at }

pub known-v-requires : goal.known-v-requires
known-v-requires g c = seat_in _ _ _ _ _ (rw c.used.ensures at c.in_ok-spot.ensures)

pub returns : goal.returns
returns g c =
    let at = rw c.used.ensures at c.in_ok-spot.ensures in
    let high : g.M.Sample.value c.args.self.now.maximum < 65536 = subst (λ n. n < 65536) c.widen.ensures.value c.widen.type_inv in
    described _ _ _ _ c.in_ok-spot.spot at _ c.known-v.result c.prediction-m.result c.place_of.result
    c.prediction-m.ensures c.known-v.ensures c.known-v.type_inv c.prediction-m.type_inv high c.place_of.ensures.code (search rules)
