use Rattle.std.proofs.Common.{ℕ, ◌<◌, length, ◌∙◌, sym, subst, arith}
use Rattle.partition.specs.Partition.{IsPartition}
use Rattle.partition.specs.Laws.Merging.{merged_above, merged_held}
use Rattle.state_pairs.specs.Laws.MergedPairs.{one_block}
use Rattle.closed_lattice.proofs.Joining.{growing_joined}
use Rattle.closed_lattice.proofs.Growing.{growing_begun, growing_merged, growing_ended, growing_one}
use Rattle.partition.specs.Laws.Blocks.{fewer_blocks}
use Rattle.closed_lattice.proofs.closure.principal_beside.Goals as goal

pub loop-u-init : goal.loop-u-init
loop-u-init c =
    let lawful : IsPartition (length c.args.m.now.states) c.in_ok-p.p = rw c.states.ensures.count at c.in_ok-p.ensures.lawful in
    rw (c.in_ok-push.ensures.items, c.new-waiting.ensures.items) (growing_begun c.args.m.now c.args.s c.args.t c.in_ok-p.p c.states.ensures.inside lawful c.in_ok-p.ensures.zero c.requires.s c.requires.t)

pub next_apart-requires : goal.next_apart-requires
next_apart-requires c = rw c.loop-u.invariant.lawful.length c.loop-u.invariant.states

pub merge-requires-clause-s : goal.merge-requires-clause-s
merge-requires-clause-s c = let inside = c.loop-u.invariant.states c.in-Some.u c.in-Some.v c.in-Some.ensures.apart.among in omega (arith, inside.0, c.loop-u.invariant.lawful.length)

pub merge-requires-clause-t : goal.merge-requires-clause-t
merge-requires-clause-t c = let inside = c.loop-u.invariant.states c.in-Some.u c.in-Some.v c.in-Some.ensures.apart.among in omega (arith, inside.1, c.loop-u.invariant.lawful.length)

pub returns-then-blocks-eq1 : goal.returns-then-blocks-eq1
returns-then-blocks-eq1 c =
    growing_one c.args.m.now c.args.s c.args.t c.loop-u.p c.loop-u.waiting.items c.in-Some.u c.in-Some.v c.next_apart.new.waiting.items c.merge.new.self
    c.states.ensures.inside c.requires.s c.requires.t c.loop-u.invariant c.in-Some.ensures.apart c.merge.ensures (one_block c.merge.new.self (sym c.blocks-in-Some.ensures ∙ c.if-blocks-eq1.true))

pub add_images-requires-clause-s : goal.add_images-requires-clause-s
add_images-requires-clause-s c = (c.loop-u.invariant.states c.in-Some.u c.in-Some.v c.in-Some.ensures.apart.among).0

pub add_images-requires-clause-t : goal.add_images-requires-clause-t
add_images-requires-clause-t c = (c.loop-u.invariant.states c.in-Some.u c.in-Some.v c.in-Some.ensures.apart.among).1

pub add_images-requires-clause-lawful : goal.add_images-requires-clause-lawful
add_images-requires-clause-lawful c = subst (λ (n : ℕ). IsPartition n c.merge.new.self) c.loop-u.invariant.lawful.length c.merge.ensures.lawful

pub loop-u-smaller : goal.loop-u-smaller
loop-u-smaller c =
    let p = c.loop-u.p in
    let r = c.add_images.new.p in
    let inv = c.loop-u.invariant in
    let taken = c.in-Some.ensures.apart in
    let joins = c.in_ok-add_images.ensures.joined in
    let inside = inv.states c.in-Some.u c.in-Some.v taken.among in
    let in_u : c.in-Some.u < length p = omega (arith, inside.0, inv.lawful.length) in
    let in_v : c.in-Some.v < length p = omega (arith, inside.1, inv.lawful.length) in
    let above = merged_above p c.merge.new.self c.in-Some.u c.in-Some.v c.merge.ensures in
    fewer_blocks p r inv.lawful.numbered joins.lawful.numbered (joins.lawful.length ∙ sym inv.lawful.length) (λ s t held. joins.above s t (above s t held))
    c.in-Some.u c.in-Some.v in_u in_v taken.apart (joins.above c.in-Some.u c.in-Some.v (merged_held p c.merge.new.self c.in-Some.u c.in-Some.v in_u in_v c.merge.ensures))

pub loop-u-preserved : goal.loop-u-preserved
loop-u-preserved c =
    growing_joined c.args.m.now c.args.s c.args.t c.merge.new.self c.add_images.new.p c.add_images.new.waiting.items
    (growing_merged c.args.m.now c.args.s c.args.t c.loop-u.p c.loop-u.waiting.items c.in-Some.u c.in-Some.v c.next_apart.new.waiting.items c.merge.new.self c.add_images.new.waiting.items
    c.states.ensures.inside c.loop-u.invariant c.in-Some.ensures.apart c.merge.ensures c.in_ok-add_images.ensures.added)
    c.in_ok-add_images.ensures.joined

pub returns : goal.returns
returns c = growing_ended c.args.m.now c.args.s c.args.t c.loop-u.p c.loop-u.waiting.items c.loop-u.invariant c.in_default.ensures.none
