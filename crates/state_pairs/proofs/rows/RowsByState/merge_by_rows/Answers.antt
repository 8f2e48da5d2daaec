use Rattle.std.proofs.Common.{ℕ, ◌≡◌, List, Contains, length, get_or, ◌∙◌, sym, subst, arith}
use Rattle.std.proofs.lemmas.List.Elements.{Contains-get_or}
use Rattle.partition.specs.Laws.Labels.{IsPartition-of}
use Rattle.state_pairs.specs.AddedPairs.{AreNamed, AtPlace, BelowCount, IsNamedBeside, OfSomeRow}
use Rattle.state_pairs.specs.SeenPairs.{AreStates}
use Rattle.state_pairs.specs.MergedStates.{MergesPairs}
use Rattle.state_pairs.specs.Laws.AddedPairs.{at_some_row, at_this_place}
use Rattle.state_pairs.specs.Laws.MergedPairs.{merges_as, merges_below_none, merges_more, merges_rest, named_are_states}
use Rattle.state_pairs.specs.Laws.NamedPairs.{named_by_rows}
use Rattle.state_pairs.specs.Laws.Sought.{row_of}
use Rattle.state_pairs.proofs.rows.RowsByState.merge_by_rows.Goals as goal

pub loop-number-init : goal.loop-number-init
loop-number-init c = record {
  merged = merges_below_none (AtPlace c.args.self.now.rows c.numbers_of-number-items.result.now (IsNamedBeside c.args.self.now c.args.t)) c.args.part.now (IsPartition-of (sym c.requires.lawful.length) c.requires.lawful);
  known = λ u v among. absurd (let none = (subst (λ (list : List (ℕ × ℕ)). Contains list (u, v)) c.in_ok-pairs.ensures.pairs among).1 in omega (arith, none));
  states = c.in_ok-pairs.ensures.states ∙ c.states.ensures.count;
}

pub merge_beside-requires-clause-inside : goal.merge_beside-requires-clause-inside
merge_beside-requires-clause-inside c u v named =
    let F = c.args.self.now in
    let asked = c.numbers_of-number-items in
    let number = get_or asked.result.now c.loop-number.number-index 0 in
    let of_state = row_of F c.args.s number c.row.result.now (asked.ensures.own number (Contains-get_or asked.result.now c.loop-number.number-index 0 c.loop-number-test.true)) c.row.ensures.row in
    named_are_states F asked.ensures.table asked.ensures.no_conflict c.args.s c.args.t c.requires.s c.requires.t u v
    ((named_by_rows F asked.ensures.table c.args.s c.args.t u v).0 (c.row.result.now, of_state, named))

pub merge_beside-requires-clause-lawful : goal.merge_beside-requires-clause-lawful
merge_beside-requires-clause-lawful c = IsPartition-of c.requires.lawful.length c.loop-number.invariant.merged.lawful

pub loop-number-preserved : goal.loop-number-preserved
loop-number-preserved c =
    let F = c.args.self.now in
    let numbers = c.numbers_of-number-items.result.now in
    let index = c.loop-number.number-index in
    let Beside = IsNamedBeside F c.args.t in
    let row = c.row.result.now in
    record {
      merged = merges_more (AtPlace F.rows numbers Beside) index (Beside row) c.args.part.now c.loop-number.part c.merge_beside.new.part
          (at_this_place F.rows numbers Beside index row c.row.ensures.row) c.loop-number.invariant.merged c.in_ok-merge_beside.ensures.merged;
      known = c.in_ok-merge_beside.ensures.known;
      states = c.in_ok-merge_beside.ensures.states ∙ c.loop-number.invariant.states;
    }

pub returns-then-blocks-eq1 : goal.returns-then-blocks-eq1
returns-then-blocks-eq1 c =
    let F = c.args.self.now in
    let s = c.args.s in
    let t = c.args.t in
    let asked = c.numbers_of-number-items in
    let numbers = asked.result.now in
    let Beside = IsNamedBeside F t in
    let index = c.loop-number.number-index in
    let states : AreStates (length c.args.part.now) (AreNamed F s t) = subst (λ (n : ℕ). AreStates n (AreNamed F s t)) (sym c.requires.lawful.length) (named_are_states F asked.ensures.table asked.ensures.no_conflict s t c.requires.s c.requires.t) in
    merges_rest (BelowCount (AtPlace F.rows numbers Beside) index) (AreNamed F s t) c.args.part.now c.loop-number.part (sym c.blocks-in-loop-number.ensures ∙ c.if-blocks-eq1.true)
    (λ u v below.
    (named_by_rows F asked.ensures.table s t u v).0
    ((at_some_row F s numbers Beside asked.ensures.own asked.ensures.each u v).0 (below.0, omega (arith, below.1, c.loop-number.auto.number-index-end), below.2)))
    states c.loop-number.invariant.merged

pub returns : goal.returns
returns c =
    let F = c.args.self.now in
    let s = c.args.s in
    let t = c.args.t in
    let asked = c.numbers_of-number-items in
    let numbers = asked.result.now in
    let Beside = IsNamedBeside F t in
    let now = c.loop-number.part in
    let old = c.args.part.now in
    let all : c.loop-number.number-index ≡ length numbers = omega (arith, c.loop-number-test.false, c.loop-number.auto.number-index-end) in
    merges_as (OfSomeRow F s Beside) (AreNamed F s t) old now (named_by_rows F asked.ensures.table s t)
    (merges_as (BelowCount (AtPlace F.rows numbers Beside) (length numbers)) (OfSomeRow F s Beside) old now (at_some_row F s numbers Beside asked.ensures.own asked.ensures.each)
    (subst (λ (n : ℕ). MergesPairs (BelowCount (AtPlace F.rows numbers Beside) n) old now) all c.loop-number.invariant.merged))
