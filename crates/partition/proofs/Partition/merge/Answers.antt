use Rattle.std.proofs.Common.{◌≡◌, ℕ, List, length, ◌-◌, sym, ap, subst, ◌∙◌, arith}
use Rattle.std.proofs.lemmas.List.{with_items_is}
use Rattle.partition.specs.Partition.{blocks_of, IsPartition}
use Rattle.partition.specs.MergedBlocks.{IsMerged}
use Rattle.partition.specs.Laws.Labels.{label-lt-blocks_of, IsPartition-of}
use Rattle.partition.specs.Laws.Relabelling.{put_together}
use Rattle.partition.proofs.Partition.merge.Goals as goal

pub overflow_sub-self : goal.overflow_sub-self
overflow_sub-self c =
    omega (arith, c.self.invariant.1, label-lt-blocks_of c.self.inside.labels.items c.args.s (omega (arith, c.requires.s, ap length c.self.view_is)))

pub invariant_of-self : goal.invariant_of-self
invariant_of-self c =
    let old : List ℕ = c.self.inside.labels.items in
    let new : List ℕ = c.relabel.new.labels in
    let done = put_together old c.as_mut_slice.result.now new c.args.s c.args.t c.index.result.now c.index-2.result.now c.min.result c.max.result
    c.self.invariant.0 c.as_mut_slice.ensures.value c.relabel.auto.labels
    (omega (arith, c.requires.s, ap length c.self.view_is)) (omega (arith, c.requires.t, ap length c.self.view_is))
    c.index.ensures c.index-2.ensures c.if-a-b.true c.min.ensures c.max.ensures c.relabel.ensures in
    subst (λ (xs : List ℕ). IsPartition (length xs) xs × (c.self.inside.blocks - 1 ≡ blocks_of xs)) (sym (with_items_is c.self.inside.labels new (c.relabel.auto.labels ∙ c.as_mut_slice.ensures.len)))
    (IsPartition-of (sym done.merged.lawful.length) done.merged.lawful, omega (arith, c.self.invariant.1, done.blocks))

pub returns-then-a-b : goal.returns-then-a-b
returns-then-a-b c =
    let old : List ℕ = c.self.inside.labels.items in
    let new : List ℕ = c.relabel.new.labels in
    let done = put_together old c.as_mut_slice.result.now new c.args.s c.args.t c.index.result.now c.index-2.result.now c.min.result c.max.result
    c.self.invariant.0 c.as_mut_slice.ensures.value c.relabel.auto.labels
    (omega (arith, c.requires.s, ap length c.self.view_is)) (omega (arith, c.requires.t, ap length c.self.view_is))
    c.index.ensures c.index-2.ensures c.if-a-b.true c.min.ensures c.max.ensures c.relabel.ensures in
    subst (λ (xs : List ℕ). IsMerged c.args.self.now c.args.s c.args.t xs) (sym (with_items_is c.self.inside.labels new (c.relabel.auto.labels ∙ c.as_mut_slice.ensures.len)))
    (subst (λ (xs : List ℕ). IsMerged xs c.args.s c.args.t new) c.self.view_is done.merged)
