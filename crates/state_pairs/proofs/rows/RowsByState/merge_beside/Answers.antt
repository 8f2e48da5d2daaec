use Rattle.std.proofs.Common.{ℕ, List, Contains, drop, length, sym, subst}
use Rattle.std.proofs.lemmas.List.{take_rest}
use Rattle.partition.specs.Partition.{Together}
use Rattle.state_pairs.specs.AddedPairs.{AddsPairs, IsListedPair, IsNamedBeside}
use Rattle.state_pairs.specs.SeenPairs.{AreStates}
use Rattle.state_pairs.specs.MergedStates.{MergesPairs}
use Rattle.state_pairs.specs.Laws.MergedPairs.{all_known, merges_added, new_are_states}
use Rattle.state_pairs.proofs.rows.RowsByState.merge_beside.Goals.{After-as_slice, After-merge_pairs}
use Rattle.state_pairs.proofs.rows.RowsByState.merge_beside.Goals as goal

adds : (c : After-as_slice) → AddsPairs (IsNamedBeside c.args.self.now c.args.t c.args.row.now) c.as_slice-known.result.now c.as_slice.result.now
adds c =
    let Beside = IsNamedBeside c.args.self.now c.args.t c.args.row.now in
    subst (λ (list : List (ℕ × ℕ)). AddsPairs Beside c.as_slice-known.result.now list) (sym c.as_slice.ensures)
    (subst (λ (list : List (ℕ × ℕ)). AddsPairs Beside list c.add_beside.new.pairs.pairs) (sym c.as_slice-known.ensures) c.in_ok-add_beside.ensures.pairs)

known : (c : After-as_slice) → (u v : ℕ) → Contains c.as_slice-known.result.now (u, v) → Together c.args.part.now u v
known c u v among = c.requires.known u v (subst (λ (list : List (ℕ × ℕ)). Contains list (u, v)) c.as_slice-known.ensures among)

merged : (c : After-merge_pairs) → MergesPairs (IsListedPair (drop (length c.as_slice-known.result.now) c.as_slice.result.now)) c.args.part.now c.merge_pairs.new.part
merged c =
    subst (λ (list : List (ℕ × ℕ)). MergesPairs (IsListedPair list) c.args.part.now c.merge_pairs.new.part) (take_rest c.as_slice.result.now (length c.as_slice-known.result.now))
    c.merge_pairs.ensures

pub merge_pairs-requires-clause-states : goal.merge_pairs-requires-clause-states
merge_pairs-requires-clause-states c =
    let Beside = IsNamedBeside c.args.self.now c.args.t c.args.row.now in
    let old = c.as_slice-known.result.now in
    let all = c.as_slice.result.now in
    let q = c.args.part.now in
    let here = (goal.at.merge_pairs-requires-clause-states c).After-as_slice in
    subst (λ (list : List (ℕ × ℕ)). AreStates (length q) (IsListedPair list)) (sym (take_rest all (length old)))
    (new_are_states Beside old all (adds here) q (known here) (subst (λ (n : ℕ). AreStates n Beside) (sym c.requires.lawful.length) c.requires.inside))

pub returns-clause-merged : goal.returns-clause-merged
returns-clause-merged c =
    let here = (goal.at.returns-clause-merged c).After-as_slice in
    merges_added (IsNamedBeside c.args.self.now c.args.t c.args.row.now) c.as_slice-known.result.now c.as_slice.result.now (adds here) c.args.part.now (known here) c.merge_pairs.new.part
    (merged (goal.at.returns-clause-merged c).After-merge_pairs)

pub returns-clause-known : goal.returns-clause-known
returns-clause-known c u v among =
    let here = (goal.at.returns-clause-known c).After-as_slice in
    all_known (IsNamedBeside c.args.self.now c.args.t c.args.row.now) c.as_slice-known.result.now c.as_slice.result.now (adds here) c.args.part.now (known here) c.merge_pairs.new.part
    (merged (goal.at.returns-clause-known c).After-merge_pairs) u v (subst (λ (list : List (ℕ × ℕ)). Contains list (u, v)) (sym c.as_slice.ensures) among)
