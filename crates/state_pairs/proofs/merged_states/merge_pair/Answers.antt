use Rattle.std.proofs.Common.{ℕ, subst}
use Rattle.partition.specs.MergedBlocks.{IsMerged}
use Rattle.state_pairs.specs.Laws.MergedPairs.{merges_pair}
use Rattle.state_pairs.proofs.merged_states.merge_pair.Goals as goal

pub returns : goal.returns
returns c =
    let q = c.args.part.now in
    let r = c.merge.new.self in
    merges_pair q r c.args.pair c.requires.first c.requires.second
    (subst (λ (n : ℕ). IsMerged q n c.args.pair.1 r) c.from.ensures (subst (λ (n : ℕ). IsMerged q c.from.result n r) c.from-2.ensures c.merge.ensures))
