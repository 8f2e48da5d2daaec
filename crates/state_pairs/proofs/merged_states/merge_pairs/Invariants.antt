use Rattle.state_pairs.specs.AddedPairs.{BelowCount, IsPairAt}
use Rattle.state_pairs.specs.MergedStates.{MergesPairs}
use Rattle.state_pairs.proofs.merged_states.merge_pairs.Given as goal

abbrev pub invariant-loop-pair : goal.invariant-loop-pair
invariant-loop-pair l = MergesPairs (BelowCount (IsPairAt l.pairs) l.pair-index) l.fn.part l.part
