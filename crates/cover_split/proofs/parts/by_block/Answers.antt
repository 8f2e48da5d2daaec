use Rattle.std.proofs.Common.{◌≡◌, List, length, map, sym, subst, ◌∙◌, ℕ, arith}
use Rattle.partition.specs.Partition.{IsPartition}
use Rattle.cover_split.specs.Expansion.{pairs_of}
use Rattle.cover_split.specs.Laws.Pairs.{few_blocks}
use Rattle.cover_split.proofs.PartLemmas.{by_block, labels_are, labels_are_lawful, labels_of}
use Rattle.cover_split.proofs.parts.by_block.Goals as goal

pub pairs_of-requires : goal.pairs_of-requires
pairs_of-requires c =
    let cover = c.requires.1 in omega (arith, few_blocks c.requires.0 c.args.blocks.now cover.lawful, cover.few)

pub of_lawful-requires : goal.of_lawful-requires
of_lawful-requires c =
    let labels = labels_are c.args.blocks.now c.in_ok-pairs.pairs.items c.as_slice.result.now c.in_ok-labels.labels.items c.as_slice-2.result.now c.in_ok-pairs.ensures c.as_slice.ensures.value c.in_ok-labels.ensures c.as_slice-2.ensures.value in
    subst (λ (list : List ℕ). IsPartition (length list) list) (sym labels) (labels_are_lawful c.requires.0 c.args.blocks.now c.requires.1)

pub returns-clause-by_block : goal.returns-clause-by_block
returns-clause-by_block c =
    let labels = labels_are c.args.blocks.now c.in_ok-pairs.pairs.items c.as_slice.result.now c.in_ok-labels.labels.items c.as_slice-2.result.now c.in_ok-pairs.ensures c.as_slice.ensures.value c.in_ok-labels.ensures c.as_slice-2.ensures.value in
    let same = c.in_ok-partition.ensures ∙ labels in
    by_block c.args.blocks.now c.in_ok-partition.partition same
    (subst (λ (list : List ℕ). IsPartition (length list) list) (sym same) (labels_are_lawful c.requires.0 c.args.blocks.now c.requires.1))

-- its labels
plainly : (blocks : List (List ℕ)) (p : List ℕ) → p ≡ labels_of blocks → p ≡ map (λ pair. pair.0) (pairs_of blocks)
unfolding labels_of
plainly blocks p is = is

pub returns-clause-labels : goal.returns-clause-labels
returns-clause-labels c =
    let labels = labels_are c.args.blocks.now c.in_ok-pairs.pairs.items c.as_slice.result.now c.in_ok-labels.labels.items c.as_slice-2.result.now c.in_ok-pairs.ensures c.as_slice.ensures.value c.in_ok-labels.ensures c.as_slice-2.ensures.value in
    plainly c.args.blocks.now c.in_ok-partition.partition (c.in_ok-partition.ensures ∙ labels)
