use Rattle.std.proofs.lemmas.Result.{IfOk-from_err}
use Rattle.std.proofs.Common.{◌≡◌, List, ◌∷◌, [], ◌++◌, length, subst, sym, rules, arith}
use Rattle.cover_logic.specs.declared.bundles.Entry.{Entry}
use Rattle.cover_logic.specs.declared.bundles.Plane.{Plane}
use Rattle.cover_logic.specs.Inner.Planes.{AreTold}
use Rattle.cover_logic.proofs.Planes.{planes_more, planes_none_at}
use Rattle.std.proofs.lemmas.List.{length-append}
use Rattle.std.specs.List.{All}
use Rattle.cover_logic.specs.Inner.Entries.{EntryFits}
use Rattle.cover_logic.proofs.bundles.Bundle.new.Goals as goal

pub loop-column-init : goal.loop-column-init
loop-column-init c = (planes_none_at c.args.entries.now c.in_ok-planes.planes.items (search rules) c.requires.few, search rules)

pub loop-column-preserved : goal.loop-column-preserved
loop-column-preserved c =
    let entries = c.args.entries.now in
    let column = c.loop-column.column in
    let planes = c.loop-column.planes.items in
    let plane : Plane = record { zeros = c.literals.result; ones = c.literals-in-loop-column.result } in
    let pushed : c.push.new.self.items ≡ planes ++ plane ∷ [] = c.in_ok-push.ensures.items in
    let size : length planes ≡ column = c.loop-column.invariant.1 in
    rw pushed (
      planes_more entries planes plane column c.loop-column.invariant.0 size (let w = c.requires.width in let t = c.loop-column-test.true in omega arith) c.literals.ensures c.literals-in-loop-column.ensures,
      (let n = length-append planes (plane ∷ []) in omega (arith, n, size)),
    )

pub invariant_of-result : goal.invariant_of-result
invariant_of-result c =
    let all : length c.loop-column.planes.items ≡ c.args.width = search rules in
    record {
      told = subst (λ (es : List Entry). AreTold es c.loop-column.planes.items) (sym c.in_ok-from_slice.ensures.items)
          (record { by_column = c.loop-column.invariant.0; fits = subst (λ n. All (EntryFits n) c.args.entries.now) (sym all) c.requires.fits });
    }

pub literals-requires-clause-few : goal.literals-requires-clause-few
literals-requires-clause-few c = c.requires.few

pub literals-requires-in-loop-column-clause-few : goal.literals-requires-in-loop-column-clause-few
literals-requires-in-loop-column-clause-few c = c.requires.few

pub returns-in_err-planes : goal.returns-in_err-planes
returns-in_err-planes c = IfOk-from_err c.from_residual.result _ c.from_residual.ensures.0

pub returns-in_err-push : goal.returns-in_err-push
returns-in_err-push c = IfOk-from_err c.from_residual-in_err-push.result _ c.from_residual-in_err-push.ensures.0

pub returns-in_err-from_slice : goal.returns-in_err-from_slice
returns-in_err-from_slice c = IfOk-from_err c.from_residual-in_err-from_slice.result _ c.from_residual-in_err-from_slice.ensures.0
