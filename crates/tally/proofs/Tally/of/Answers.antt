-- Each is needed: without it the check leaves its goal open.
use Rattle.std.proofs.Common.{◌≡◌, rules}
use Rattle.tally.proofs.Tallying.{tallied_none, tallied_more, tallied_all}
use Rattle.tally.proofs.Tally.of.Goals as goal

pub loop-at-preserved : goal.loop-at-preserved
loop-at-preserved g c =
    let all = c.loop-at.invariant in
    let step = rw all.same at c.in-Some.ensures.steps.1 in
    record {
      can_next = search rules;
      is_finite = search rules;
      same = search rules;
      tallied = tallied_more _ _ _ (g.C.Carrier.meaning.paired c.args.c.now) _ _ _ _ _ step c.add.ensures.length (λ k h. search rules) all.tallied;
    }

pub loop-at-init : goal.loop-at-init
loop-at-init g c =
    let first : c.into_iter-at-iterator.result.numbers.start ≡ 0 = search rules in
    record {
      can_next = search rules;
      is_finite = search rules;
      same = search rules;
      tallied = rw first (tallied_none _ _ _);
    }

pub returns : goal.returns
returns g c =
    let all = c.loop-at.invariant in
    let none = rw all.same at c.in-None.ensures.steps.1 in
    tallied_all _ _ _ (g.C.Carrier.meaning.paired c.args.c.now) _ _ none.0 all.tallied
