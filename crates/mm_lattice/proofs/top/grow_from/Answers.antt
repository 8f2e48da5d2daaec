use Rattle.std.proofs.Common.{◌≡◌, ◌<◌, ◌⊎◌, List, ℕ, inl, inr, length, subst, sym, arith}
use Rattle.machine_table.specs.MergedStates.{MergesImages}
use Rattle.partition.specs.Partition.{IsPartition}
use Rattle.pair_operators.specs.Laws.Growth.{pair_taken}
use Rattle.mm_lattice.specs.Generators.{IsRightOf}
use Rattle.mm_lattice.specs.Top.{IsBelowOne}
use Rattle.mm_lattice.proofs.Grown.{grown_join}
use Rattle.mm_lattice.proofs.Topmost.{block_of_one, one_block}
use Rattle.mm_lattice.proofs.top.grow_from.Goals as goal
use Rattle.mm_lattice.proofs.top.grow_from.Goals.{then-blocks-gt1, else-blocks-gt1}

pub merge_images-requires-clause-lawful : goal.merge_images-requires-clause-lawful
merge_images-requires-clause-lawful c = subst (IsPartition (length c.args.m.now.states)) (sym c.in_ok-joined.ensures.same) c.loop-t.invariant.lawful

pub loop-t-preserved : goal.loop-t-preserved
loop-t-preserved c =
    let F = c.args.m.now in
    let p = c.loop-t.grown in
    let joined = c.merge_images.new.part in
    let merged : MergesImages F c.args.s c.loop-t.t p joined =
    subst (λ (q : List ℕ). MergesImages F c.args.s c.loop-t.t q joined) c.in_ok-joined.ensures.same c.in_ok-merge_images.ensures in
    let order : c.args.s < c.loop-t.t = omega (arith, c.loop-t.auto.t) in
    let (right, is_right, is_join) = grown_join F c.args.s c.loop-t.t c.states-t-end.ensures.inside c.requires.state (subst (λ (n : ℕ). c.loop-t.t < n) c.states-t-end.ensures.count c.loop-t-test.true) p joined c.loop-t.invariant.lawful order merged in
    let taken : (IsBelowOne joined × (c.if-blocks-gt1.grown ≡ joined)) ⊎ ((IsBelowOne joined → ⊥) × (c.if-blocks-gt1.grown ≡ p)) =
    elim c.if-blocks-gt1.branch [
      | then-blocks-gt1 w ↦ inl ((λ one. omega (arith, block_of_one (length p) joined merged.lawful one, c.blocks-in-loop-t.ensures, w.if-blocks-gt1.true)), w.grown-is)
      | else-blocks-gt1 w ↦ inr ((λ below. below (one_block joined (omega (arith, c.blocks-in-loop-t.ensures, w.if-blocks-gt1.false)))), w.grown-is)
    ] in
    let more = pair_taken (length F.states) (IsRightOf F) IsBelowOne c.args.start p c.args.s c.loop-t.t right joined c.if-blocks-gt1.grown
    c.loop-t.invariant.lawful c.loop-t.invariant.grown is_right is_join taken c.loop-t.auto.t in
    record { lawful = more.0; grown = more.1 }
