-- Each is needed: without it the check leaves its goal open.
use Rattle.std.proofs.Common.{◌≡◌, ◌+◌, ◌*◌, ◌/◌, ◌%◌, ◌<◌, ◌≤◌, ap, ◌∙◌, subst, ⊎_elim, arith, rules}
use Rattle.corner.specs.declared.Channels.{Channels}
use Rattle.corner.specs.declared.Channels.TheVariants.{One, Three}
use Rattle.corner.specs.Channels.{channel_count}
use Rattle.corner.specs.Layout.{across, block_row, block_column}
use Rattle.corner.proofs.Locating.{past_limit, past_blocks, past_end, located}
use Rattle.corner.proofs.Grid.spot.Goals as goal

some-channels : (n : Channels) → 0 < channel_count n
some-channels One = omega arith
some-channels Three = omega arith

pub returns-then-p-ge-MOST_PLACES : goal.returns-then-p-ge-MOST_PLACES
returns-then-p-ge-MOST_PLACES c =
    ⊎_elim
    (λ far. past_limit _ _ _ _ c.requires far)
    (λ h. past_blocks _ _ _ _ (omega (arith, h.1)))
    c.then-p-ge-MOST_PLACES.either

pub returns-then-upper-line : goal.returns-then-upper-line
returns-then-upper-line c =
    let row : c.divided-row.result.0 ≡ block_row c.args.self.width (channel_count c.args.self.channels) c.args.p = c.divided-row.ensures.quotient ∙ ap (λ b. b / across c.args.self.width) c.split-block.ensures.block in
    let w = c.from.ensures in
    let n = c.from-step.ensures in
    past_end _ _ _ _ (subst (λ k. c.args.total < k) (λ i. 2 * row i * (w i * n i) + 2 * (w i * n i)) c.if-upper-line.true)

pub returns : goal.returns
returns c =
    let b = c.split-block.ensures.block in
    let ch = c.split-block.ensures.channel in
    let w = c.from.ensures in
    let n = c.from-step.ensures in
    let row : c.divided-row.result.0 ≡ block_row c.args.self.width (channel_count c.args.self.channels) c.args.p = c.divided-row.ensures.quotient ∙ ap (λ k. k / across c.args.self.width) b in
    let column : c.divided-row.result.1 ≡ block_column c.args.self.width (channel_count c.args.self.channels) c.args.p = c.divided-row.ensures.remainder ∙ ap (λ k. k % across c.args.self.width) b in
    located _ _ _ _ c.requires (some-channels c.args.self.channels) (search rules)
    (subst (λ k. k ≤ c.args.total) (λ i. 2 * row i * (w i * n i) + 2 * (w i * n i)) c.if-upper-line.false)
    c.below.result
    (c.below.ensures.seat ∙ (λ i. 2 * row i * (w i * n i) + 2 * column i * n i + ch i + w i * n i + n i))
    (c.below.ensures.left ∙ (λ i. 2 * row i * (w i * n i) + 2 * column i * n i + ch i + w i * n i))
    (c.below.ensures.above ∙ (λ i. 2 * row i * (w i * n i) + 2 * column i * n i + ch i + n i))
    (c.below.ensures.diagonal ∙ (λ i. 2 * row i * (w i * n i) + 2 * column i * n i + ch i))
