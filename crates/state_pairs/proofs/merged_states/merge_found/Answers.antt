use Rattle.std.proofs.Common.{ℕ, Option, sym, subst}
use Rattle.state_pairs.specs.AddedPairs.{IsFound}
use Rattle.state_pairs.specs.MergedStates.{MergesPairs}
use Rattle.state_pairs.specs.Laws.MergedPairs.{merges_none}
use Rattle.state_pairs.proofs.merged_states.merge_found.Goals as goal

pub merge_pair-requires-clause-first : goal.merge_pair-requires-clause-first
merge_pair-requires-clause-first c = (c.requires.states c.in-Some.pair.0 c.in-Some.pair.1 c.in-Some.is).0

pub merge_pair-requires-clause-second : goal.merge_pair-requires-clause-second
merge_pair-requires-clause-second c = (c.requires.states c.in-Some.pair.0 c.in-Some.pair.1 c.in-Some.is).1

pub returns-in-Some : goal.returns-in-Some
returns-in-Some c = subst (λ (o : Option (ℕ × ℕ)). MergesPairs (IsFound o) c.args.part.now c.merge_pair.new.part) (sym c.in-Some.is) c.merge_pair.ensures

pub returns-in_default : goal.returns-in_default
returns-in_default c = merges_none (IsFound c.args.found) c.args.part.now c.requires.lawful (λ u v found. c.in_default.not-Some (u, v) found)
