use Rattle.std.proofs.Common.{ℕ, ◌≡◌, Some, length, get_or, subst, arith}
use Rattle.std.proofs.lemmas.List.{get_or_default}
use Rattle.std.proofs.lemmas.List.Elements.{Contains-get_or}
use Rattle.state_pairs.specs.AddedPairs.{BelowCount, IsFound, IsPairAt}
use Rattle.state_pairs.specs.MergedStates.{MergesPairs}
use Rattle.state_pairs.specs.Laws.MergedPairs.{at_this_pair, merges_below_none, merges_more}
use Rattle.state_pairs.proofs.merged_states.merge_pairs.Goals as goal

pub loop-pair-init : goal.loop-pair-init
loop-pair-init c = merges_below_none (IsPairAt c.args.pairs.now) c.args.part.now c.requires.lawful

pub merge_pair-requires : goal.merge_pair-requires
merge_pair-requires c =
    let pairs = c.args.pairs.now in
    let i = c.loop-pair.pair-index in
    let pair : ℕ × ℕ = get_or pairs i (0, 0) in
    let both = c.requires.states pair.0 pair.1 (Contains-get_or pairs i (0, 0) c.loop-pair-test.true) in
    let size = c.loop-pair.invariant.lawful.length in
    record { first = omega (arith, both.0, size); second = omega (arith, both.1, size) }

pub loop-pair-preserved : goal.loop-pair-preserved
loop-pair-preserved c =
    let pairs = c.args.pairs.now in
    let i = c.loop-pair.pair-index in
    let pair : ℕ × ℕ = get_or pairs i (0, 0) in
    merges_more (IsPairAt pairs) i (IsFound (Some pair)) c.args.part.now c.loop-pair.part c.merge_pair.new.part
    (at_this_pair pairs i pair (get_or_default pairs i (0, 0) pair c.loop-pair-test.true) c.loop-pair-test.true) c.loop-pair.invariant c.merge_pair.ensures

pub returns : goal.returns
returns c =
    let pairs = c.args.pairs.now in
    let all : c.loop-pair.pair-index ≡ length pairs = omega (arith, c.loop-pair-test.false, c.loop-pair.auto.pair-index-end) in
    subst (λ (n : ℕ). MergesPairs (BelowCount (IsPairAt pairs) n) c.args.part.now c.loop-pair.part) all c.loop-pair.invariant
