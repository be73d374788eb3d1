-- Each is needed: without it the check leaves its goal open.
use Rattle.layer.proofs.WindowPlaces.{shows}
use Rattle.layer.proofs.window.WindowCarrier.get.Goals as goal

pub returns : goal.returns
returns g c =
    let (shown, sum) = c.in_ok-k.ensures in
    shows _ _ _ _ _ _ c.get.result (g.C.Carrier.meaning.few c.args.self.now.below) shown sum c.get.ensures
