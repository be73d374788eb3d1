-- Each is needed: without it the check leaves its goal open.
use Rattle.netpbm.proofs.Pictures.{pictures}
use Rattle.netpbm.proofs.pictures_are_accepted.Goals as goal

pub returns : goal.returns
returns c = pictures c.args.file.now
