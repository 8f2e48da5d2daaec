use Rattle.std.proofs.Common.{◌≡◌, ◌∙◌, ◌≤◌, length, sym, arith}
use Rattle.partition.specs.Partition.{Le, blocks_of}
use Rattle.partition.specs.Laws.Labels.{blocks_of-le}
use Rattle.state_reduce.proofs.Counted.{fewer_blocks, same_from_blocks}
use Rattle.state_reduce.proofs.Rounds.{below_last, first_round, next_round, stable_is_equivalence}
use Rattle.state_reduce.proofs.refinement.equivalence.Goals as goal

pub loop-present-init : goal.loop-present-init
loop-present-init c = first_round c.args.m.now c.in_ok-present.present c.in_ok-present.ensures

pub loop-present-preserved : goal.loop-present-preserved
loop-present-preserved c =
    next_round c.args.m.now c.loop-present.present c.in_ok-finer.finer c.keeps_its_states.ensures.next c.loop-present.invariant c.in_ok-finer.ensures

pub returns-then-blocks : goal.returns-then-blocks
returns-then-blocks c =
    let F = c.args.m.now in
    let p = c.loop-present.present in
    let q = c.in_ok-finer.finer in
    let last = c.loop-present.invariant in
    let split = c.in_ok-finer.ensures in
    let below : Le q p = below_last F p q last.lawful.length split in
    let equal : blocks_of q ≡ blocks_of p = sym c.blocks-in-loop-present.ensures ∙ c.if-blocks.true ∙ c.blocks-in-loop-present-2.ensures in
    stable_is_equivalence F p q last split (same_from_blocks (length F.states) p q last.lawful split.lawful below equal)

pub loop-present-smaller : goal.loop-present-smaller
loop-present-smaller c =
    let F = c.args.m.now in
    let p = c.loop-present.present in
    let q = c.in_ok-finer.finer in
    let last = c.loop-present.invariant in
    let split = c.in_ok-finer.ensures in
    let fewer : blocks_of p ≤ blocks_of q = fewer_blocks (length F.states) p q last.lawful split.lawful (below_last F p q last.lawful.length split) in
    let few : blocks_of q ≤ length q = blocks_of-le q split.lawful.numbered in
    let size : length q ≡ length F.states = split.lawful.length in
    omega (arith, c.if-blocks.false, c.blocks-in-loop-present.ensures, c.blocks-in-loop-present-2.ensures)
