-- Each is needed: without it the check leaves its goal open.
use Rattle.std.proofs.Common.{rules}
use Rattle.layer.proofs.WindowPuts.{window_put}
use Rattle.layer.proofs.window.Window.put_below.Goals as goal

pub returns : goal.returns
returns g c =
    window_put g.C.Carrier g.C.CarrierMut.lent _ _ _ _ _ _ _ _ _ c.requires.place c.requires.number (search rules) c.put.ensures
