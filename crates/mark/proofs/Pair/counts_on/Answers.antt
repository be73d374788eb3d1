-- Each is needed: without it the check leaves its goal open.
use Rattle.std.proofs.Common.{rules}
use Rattle.mark.proofs.Passes.{counted_flag, found_more}
use Rattle.mark.proofs.Pair.counts_on.Goals as goal

pub loop-at-preserved : goal.loop-at-preserved
loop-at-preserved g c =
    let all = c.loop-at.invariant in
    let paired = g.C.Carrier.meaning.paired c.args.c.now in
    let step = rw all.same at c.in-Some.ensures.steps.1 in
    record {
      can_next = search rules;
      is_finite = search rules;
      same = search rules;
      slots = counted_flag _ _ _ paired _ _ _ _ _ _ step c.is_slot.ensures c.from.ensures all.slots;
      mapped = counted_flag _ _ _ paired _ _ _ _ _ _ step c.is_mapped.ensures c.from-in-loop-at.ensures all.mapped;
      flag = found_more _ _ _ paired _ _ _ _ _ step c.is_at_top.ensures all.flag;
    }
