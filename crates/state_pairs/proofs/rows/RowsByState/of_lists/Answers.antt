use Rattle.std.proofs.Common.{ℕ, List, length, sym, subst}
use Rattle.std.proofs.lemmas.Result.{IfOk-from_err}
use Rattle.kiss_file.specs.declared.file.KissFile.{KissFile}
use Rattle.kiss_file.specs.declared.file.KissRow.{KissRow}
use Rattle.kiss_file.specs.Machine.{Conflicting}
use Rattle.state_pairs.specs.Table.{IsTable}
use Rattle.state_rows.specs.Bundles.{ListBundles}
use Rattle.state_rows.specs.Columns.{AreColumns}
use Rattle.state_rows.specs.Places.{ListRows}
use Rattle.state_pairs.proofs.rows.RowsByState.of_lists.Goals as goal

pub invariant_of-result : goal.invariant_of-result
invariant_of-result c =
    let F = c.args.file.now in
    let stand : ListRows F.rows (length F.states) c.in_ok-ordered.ordered.items =
    subst (λ (n : ℕ). ListRows F.rows n c.in_ok-ordered.ordered.items) c.requires.size
    (subst (λ (list : List KissRow). ListRows list (length c.args.places.now) c.in_ok-ordered.ordered.items) c.as_slice-rows.ensures c.in_ok-ordered.ensures) in
    let columns : AreColumns F.rows c.in_ok-ordered.ordered.items c.in_ok-leaders.leaders.items c.in_ok-columns.columns.items =
    subst (λ (list : List KissRow). AreColumns list c.in_ok-ordered.ordered.items c.in_ok-leaders.leaders.items c.in_ok-columns.columns.items) c.as_slice-rows.ensures
    (subst (λ (all : List ℕ). AreColumns c.as_slice-rows.result.now c.in_ok-ordered.ordered.items all c.in_ok-columns.columns.items) c.deref-3.ensures.value
    (subst (λ (lists : List (List ℕ)). AreColumns c.as_slice-rows.result.now lists c.deref-3.result.now c.in_ok-columns.columns.items) c.deref-2.ensures.value
    c.in_ok-columns.ensures)) in
    subst (λ (G : KissFile). IsTable G × (Conflicting G → ⊥) × ListRows G.rows (length G.states) c.in_ok-ordered.ordered.items
    × AreColumns G.rows c.in_ok-ordered.ordered.items c.in_ok-leaders.leaders.items c.in_ok-columns.columns.items
    × ListBundles G.rows (length G.states) c.args.bundles.items)
    (sym c.in_ok-file.ensures) (c.requires.table, c.requires.no_conflict, stand, columns, c.requires.bundles)

pub returns-in_err-ordered : goal.returns-in_err-ordered
returns-in_err-ordered c = IfOk-from_err c.from_residual.result _ c.from_residual.ensures.0

pub returns-in_err-leaders : goal.returns-in_err-leaders
returns-in_err-leaders c = IfOk-from_err c.from_residual-in_err-leaders.result _ c.from_residual-in_err-leaders.ensures.0

pub returns-in_err-columns : goal.returns-in_err-columns
returns-in_err-columns c = IfOk-from_err c.from_residual-in_err-columns.result _ c.from_residual-in_err-columns.ensures.0

pub returns-in_err-file : goal.returns-in_err-file
returns-in_err-file c = IfOk-from_err c.from_residual-in_err-file.result _ c.from_residual-in_err-file.ensures.0

pub columns_of_states-requires-clause-size : goal.columns_of_states-requires-clause-size
columns_of_states-requires-clause-size c = rw (c.deref-2.ensures.value, c.deref-3.ensures.value) (rw c.deref.ensures.value at c.in_ok-leaders.ensures.size)

pub columns_of_states-requires-clause-inside : goal.columns_of_states-requires-clause-inside
columns_of_states-requires-clause-inside c = rw (c.deref-2.ensures.value, c.deref-3.ensures.value) (rw c.deref.ensures.value at c.in_ok-leaders.ensures.inside)

pub columns_of_states-requires-clause-alike : goal.columns_of_states-requires-clause-alike
columns_of_states-requires-clause-alike c = rw (c.deref-2.ensures.value, c.deref-3.ensures.value) (rw c.deref.ensures.value at c.in_ok-leaders.ensures.cubes)
