use Rattle.std.proofs.Common.{ℕ, ◌<◌, All, List, IsTrue, false, length, sym, ap, ◌∙◌, subst, arith}
use Rattle.std.proofs.lemmas.Bool.{false≢true}
use Rattle.std.proofs.lemmas.Result.{IfOk-from_err, err_from_is_err_and}
use Rattle.kiss_file.specs.declared.file.KissFile.{KissFile}
use Rattle.kiss_file.specs.declared.file.KissRow.{KissRow}
use Rattle.kiss_file.specs.Machine.{Conflicting, Specified}
use Rattle.state_rows.specs.Conflict.{ContradictAt}
use Rattle.state_pairs.specs.Table.{IsTable}
use Rattle.state_rows.specs.Bundles.{IsFit, ListBundles}
use Rattle.state_pairs.specs.Laws.Lawful.{fit_of_table}
use Rattle.machine_table.specs.Laws.Conflicts.{few_rows, none_conflicting}
use Rattle.machine_table.proofs.machine.Machine.of_rows.Goals as goal

pub overflow_cast-result : goal.overflow_cast-result
overflow_cast-result c =
    let few = few_rows c.args.file.now c.as_slice-rows.result.now c.in-Some.earlier c.in-Some.later c.as_slice-rows.ensures c.requires.numbered c.in-Some.ensures.some in
    omega (arith, few.0, few.1)

pub overflow_add-result : goal.overflow_add-result
overflow_add-result c =
    let few = few_rows c.args.file.now c.as_slice-rows.result.now c.in-Some.earlier c.in-Some.later c.as_slice-rows.ensures c.requires.numbered c.in-Some.ensures.some in
    omega (arith, few.0, few.1)

pub overflow_cast-result-in-Some : goal.overflow_cast-result-in-Some
overflow_cast-result-in-Some c =
    let few = few_rows c.args.file.now c.as_slice-rows.result.now c.in-Some.earlier c.in-Some.later c.as_slice-rows.ensures c.requires.numbered c.in-Some.ensures.some in
    omega (arith, few.0, few.1)

pub overflow_add-result-in-Some : goal.overflow_add-result-in-Some
overflow_add-result-in-Some c =
    let few = few_rows c.args.file.now c.as_slice-rows.result.now c.in-Some.earlier c.in-Some.later c.as_slice-rows.ensures c.requires.numbered c.in-Some.ensures.some in
    omega (arith, few.0, few.1)

pub first_conflict-requires-clause-fit : goal.first_conflict-requires-clause-fit
first_conflict-requires-clause-fit c = (
  c.args.file.now.inputs,
  subst (λ (list : List KissRow). All (IsFit c.args.file.now.inputs) list) (sym c.as_slice-rows.ensures) (fit_of_table c.args.file.now c.requires.table),
)

pub of_lists-requires-clause-no_conflict : goal.of_lists-requires-clause-no_conflict
of_lists-requires-clause-no_conflict c =
    none_conflicting c.args.file.now (subst (λ (list : List KissRow). (i j : ℕ) → i < j → ContradictAt list i j → ⊥) c.as_slice-rows.ensures c.in_default.ensures.none)

pub of_lists-requires-clause-size : goal.of_lists-requires-clause-size
of_lists-requires-clause-size c = ap (λ (lists : List (List ℕ)). length lists) c.deref-3.ensures.value ∙ c.in_ok-places.ensures.size ∙ c.count.ensures.count

pub of_lists-requires-clause-bundles : goal.of_lists-requires-clause-bundles
of_lists-requires-clause-bundles c =
    subst (λ (n : ℕ). ListBundles c.args.file.now.rows n c.in_ok-bundles.bundles.items) c.count.ensures.count
    (subst (λ (list : List KissRow). ListBundles list c.count.result c.in_ok-bundles.bundles.items) c.as_slice-rows.ensures
    (subst (λ (n : ℕ). ListBundles c.as_slice-rows.result.now n c.in_ok-bundles.bundles.items) (ap (λ (lists : List (List ℕ)). length lists) c.deref.ensures.value ∙ c.in_ok-places.ensures.size) c.in_ok-bundles.ensures))

pub invariant_of-result : goal.invariant_of-result
invariant_of-result c =
    let none = none_conflicting c.args.file.now
    (subst (λ (list : List KissRow). (i j : ℕ) → i < j → ContradictAt list i j → ⊥) c.as_slice-rows.ensures c.in_default.ensures.none) in
    subst (λ (G : KissFile). IsTable G × (Conflicting G → ⊥) × (IsTrue false → Specified G)) (sym c.in_ok-rows.ensures)
    (c.requires.table, none, (λ complete. absurd (false≢true complete)))

pub returns-in_err-places-clause-machine : goal.returns-in_err-places-clause-machine
returns-in_err-places-clause-machine c = IfOk-from_err c.from_residual.result _ c.from_residual.ensures.0

pub returns-in_err-places-clause-caused : goal.returns-in_err-places-clause-caused
returns-in_err-places-clause-caused c = let p = err_from_is_err_and c.from_residual.result c.from_residual.ensures.1 in rw (p.1, p.2) tt

pub returns-in_err-bundles-clause-machine : goal.returns-in_err-bundles-clause-machine
returns-in_err-bundles-clause-machine c = IfOk-from_err c.from_residual-in_err-bundles.result _ c.from_residual-in_err-bundles.ensures.0

pub returns-in_err-bundles-clause-caused : goal.returns-in_err-bundles-clause-caused
returns-in_err-bundles-clause-caused c = let p = err_from_is_err_and c.from_residual-in_err-bundles.result c.from_residual-in_err-bundles.ensures.1 in rw (p.1, p.2) tt

pub returns-in_err-rows-clause-machine : goal.returns-in_err-rows-clause-machine
returns-in_err-rows-clause-machine c = IfOk-from_err c.from_residual-in_err-rows.result _ c.from_residual-in_err-rows.ensures.0

pub returns-in_err-rows-clause-caused : goal.returns-in_err-rows-clause-caused
returns-in_err-rows-clause-caused c = let p = err_from_is_err_and c.from_residual-in_err-rows.result c.from_residual-in_err-rows.ensures.1 in rw (p.1, p.2) tt
