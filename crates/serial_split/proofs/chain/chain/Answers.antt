use Rattle.std.proofs.Common.{◌≡◌, ℕ, ◌<◌, List, length, sym, ap, ◌∙◌, subst, arith, refl}
use Rattle.std.specs.List.{range_with_len}
use Rattle.kiss_file.specs.declared.file.KissFile.{KissFile}
use Rattle.partition.specs.Partition.{IsPartition, IsZero, blocks_of}
use Rattle.partition.specs.Laws.Blocks.{strictly_fewer, zero_blocks, zero_by_blocks}
use Rattle.partition.specs.Laws.Labels.{blocks_of-le}
use Rattle.state_codes.specs.declared.split.Part.{Part}
use Rattle.serial_split.specs.Inner.Chain.{IsStep, part_after}
use Rattle.serial_split.proofs.Steps.{chain_begun, chain_few, chain_more}
use Rattle.serial_split.proofs.chain.chain.Goals as goal

pub loop-alloc-init : goal.loop-alloc-init
loop-alloc-init c =
    record {
      chain = rw c.new-parts.ensures
          (chain_begun c.args.m.now c.in_ok-top.top (subst (λ (n : ℕ). IsPartition n c.in_ok-top.top) c.states-n.ensures.count c.in_ok-top.ensures.lawful) c.in_ok-top.ensures.one);
      kept = c.in_ok-kept.ensures c.args.m.now;
    }

pub below-requires-clause-states : goal.below-requires-clause-states
below-requires-clause-states c = c.loop-alloc.invariant.chain.lawful.length

-- fewer blocks than states: it is not zero
not_zero : (F : KissFile) (n : ℕ) (top : List ℕ) → n ≡ length F.states → IsPartition (length F.states) top → blocks_of top < n → IsZero top → ⊥
not_zero F n top size lawful fewer zero = omega (arith, zero_blocks (length F.states) top lawful zero)

pub inside-requires-clause-length : goal.inside-requires-clause-length
inside-requires-clause-length c =
    let greatest = c.in_ok-next.ensures.greatest (not_zero c.args.m.now c.states-n.result c.loop-alloc.top c.states-n.ensures.count c.loop-alloc.invariant.chain.lawful (omega arith)) in
    greatest.closed.0.length ∙ sym c.loop-alloc.invariant.chain.lawful.length

pub inside-requires-clause-le : goal.inside-requires-clause-le
inside-requires-clause-le c =
    let greatest = c.in_ok-next.ensures.greatest (not_zero c.args.m.now c.states-n.result c.loop-alloc.top c.states-n.ensures.count c.loop-alloc.invariant.chain.lawful (omega arith)) in
    greatest.meets.0

pub part_after-requires : goal.part_after-requires
part_after-requires c =
    omega (arith, ap length c.as_slice-number.ensures, chain_few c.args.m.now c.loop-alloc.parts c.loop-alloc.top c.loop-alloc.invariant.chain)

pub loop-alloc-smaller : goal.loop-alloc-smaller
loop-alloc-smaller c =
    let greatest = c.in_ok-next.ensures.greatest (not_zero c.args.m.now c.states-n.result c.loop-alloc.top c.states-n.ensures.count c.loop-alloc.invariant.chain.lawful (omega arith)) in
    omega (arith, strictly_fewer (length c.args.m.now.states) c.in_ok-next.next c.loop-alloc.top greatest.closed.0 c.loop-alloc.invariant.chain.lawful greatest.meets.0 greatest.meets.1, c.loop-alloc-test.true, c.blocks-in-loop-alloc.ensures)

pub loop-alloc-preserved : goal.loop-alloc-preserved
loop-alloc-preserved c =
    let F = c.args.m.now in
    let other : IsZero c.loop-alloc.top → ⊥ = not_zero F c.states-n.result c.loop-alloc.top c.states-n.ensures.count c.loop-alloc.invariant.chain.lawful (omega arith) in
    let part : Part = part_after c.in_ok-inside.inside (length c.as_slice-number.result.now) in
    let number : length c.as_slice-number.result.now ≡ length c.loop-alloc.parts = ap length c.as_slice-number.ensures in
    let step : IsStep F c.loop-alloc.top part c.in_ok-next.next = record {
      not_zero = other;
      grown = c.in_ok-next.ensures.growth;
      greatest = c.in_ok-next.ensures.greatest other;
      inside = c.in_ok-inside.ensures;
      own = refl;
    } in
    record {
      chain = rw (c.in_ok-push.ensures.ok, c.in_ok-part_after.ensures)
          (chain_more F c.loop-alloc.parts part c.loop-alloc.top c.in_ok-next.next c.loop-alloc.invariant.chain step (ap (range_with_len 0) number));
      kept = c.in_ok-next.ensures.kept;
    }

pub returns : goal.returns
returns c =
    let lawful = c.loop-alloc.invariant.chain.lawful in
    (c.loop-alloc.top, zero_by_blocks (length c.args.m.now.states) c.loop-alloc.top lawful (omega (arith, blocks_of-le c.loop-alloc.top lawful.numbered, lawful.length, c.loop-alloc-test.false, c.blocks-in-loop-alloc.ensures, c.states-n.ensures.count)), c.loop-alloc.invariant.chain)
