use Rattle.std.proofs.Common.{◌≡◌}
use Rattle.mark.specs.Places.{is_slot, is_mapped, is_at_top}
use Rattle.mark.proofs.Passes.{Counted, Found}
use Rattle.mark.proofs.Pair.counts_on.Given as goal

abbrev pub invariant-loop-at : goal.invariant-loop-at
invariant-loop-at g l =
    let c = g.C.Carrier in
    let sites = c.sites (c.rest l.c) in
    let codes = c.codes l.c in
    let i = l.at-iterator.numbers.start in
    record {
      can_next : (goal.iterator-loop-at g).can_next l.at-iterator;
      is_finite : (goal.iterator-loop-at g).is_finite l.at-iterator;
      same : l.at-iterator.carrier.now ≡ l.c;
      slots : Counted (is_slot l.self.peak l.self.zero) sites codes i l.slots;
      mapped : Counted (is_mapped l.self.peak l.self.zero) sites codes i l.mapped;
      flag : Found (is_at_top l.self.peak l.self.zero) sites codes i l.flag;
    }
