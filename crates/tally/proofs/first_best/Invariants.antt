use Rattle.std.proofs.Common.{ℕ, ◌-◌, ◌<◌, ◌≤◌, Bool}
use Rattle.std.specs.Cmp.{IsStrictWeakOrder}
use Rattle.std.specs.List.{IsFirstBest}
use Rattle.tally.specs.Tally.{AnswersAs}
use Rattle.tally.proofs.first_best.Given as goal

abbrev pub invariant-loop-i : goal.invariant-loop-i
invariant-loop-i g l =
    (l.best ≤ l.i - 1)
    × ((o : ℕ → ℕ → Bool) → IsStrictWeakOrder o → AnswersAs (goal.B-post g l.better) o → 0 < l.i → IsFirstBest o l.counts l.i l.best)
