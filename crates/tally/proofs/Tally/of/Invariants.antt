use Rattle.std.proofs.Common.{◌≡◌}
use Rattle.tally.proofs.Tallying.{Tallied}
use Rattle.tally.proofs.Tally.of.Given as goal

abbrev pub invariant-loop-at : goal.invariant-loop-at
invariant-loop-at g l =
    let c = g.C.Carrier in
    record {
      can_next : (goal.iterator-loop-at g).can_next l.at-iterator;
      is_finite : (goal.iterator-loop-at g).is_finite l.at-iterator;
      same : l.at-iterator.carrier.now ≡ l.c;
      tallied : Tallied 255 (c.sites (c.rest l.c)) (c.codes l.c) l.at-iterator.numbers.start l.found.counts;
    }
