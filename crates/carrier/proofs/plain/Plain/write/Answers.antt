-- Each is needed: without it the check leaves its goal open.
use Rattle.std.proofs.Common.{rules}
use Rattle.carrier.proofs.Putting.{less_low, done}
use Rattle.carrier.proofs.PlainPlaces.{written}
use Rattle.carrier.proofs.plain.Plain.write.Goals as goal

pub returns : goal.returns
returns g c =
    let there = c.requires.there in
    let less = less_low c.args.at c.args.v c.ranges.v there.low_range there.high_range c.requires.taken in
    let all = written _ _ _ _ _ c.args.at _ _ _ there c.requires.taken (search rules) c.store.ensures.stored less in
    record {
      puts = done _ _ _ _ c.args.at _ there c.requires.taken _ _ _ all.0 all.1;
      rest = all.2;
      lent = c.store.ensures.lent;
    }
