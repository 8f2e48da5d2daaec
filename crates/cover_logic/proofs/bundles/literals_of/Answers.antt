use Rattle.std.proofs.lemmas.Result.{IfOk-from_err}
use Rattle.std.proofs.Common.{◌≡◌, ◌-◌, ◌≤◌, [], ◌∷◌, ◌++◌, subst, sym, rules, arith}
use Rattle.cover_logic.specs.declared.bundles.Literal.{Literal}
use Rattle.cover_logic.proofs.Literals.{AreLaterLiterals, later_none, later_more, later_passed, later_all}
use Rattle.cover_logic.proofs.bundles.literals_of.Goals as goal

pub loop-column-init : goal.loop-column-init
loop-column-init c =
    let same : c.from-column.result ≡ c.args.width = search rules in
    let within : c.args.width ≤ 128 = c.requires.width in
    rw c.new-literals.ensures.items
    (subst (λ n. AreLaterLiterals c.args.row n [] × (n ≤ 128)) (sym same) (later_none c.args.row c.args.width c.requires.fits, within))

pub loop-column-preserved : goal.loop-column-preserved
loop-column-preserved c =
    let some = c.loop-column-test.true in
    let within = c.loop-column.invariant.1 in (
      later_passed c.args.row c.loop-column.column (c.loop-column.column - 1) c.loop-column.literals.items (omega arith) c.in_default.ensures c.loop-column.invariant.0,
      omega arith,
    )

pub loop-column-preserved-in-Continue-1 : goal.loop-column-preserved-in-Continue-1
loop-column-preserved-in-Continue-1 c =
    let some = c.loop-column-test.true in
    let within = c.loop-column.invariant.1 in
    let literals = c.loop-column.literals.items in
    let literal : Literal = c.in-Some.literal in
    let pushed : c.push.new.self.items ≡ literals ++ literal ∷ [] = c.in_ok-push.ensures.items in
    rw pushed (
      later_more c.args.row c.loop-column.column (c.loop-column.column - 1) literals literal (omega arith) c.in-Some.ensures.0 c.in-Some.ensures.1 c.loop-column.invariant.0,
      omega arith,
    )

pub returns : goal.returns
returns c = later_all c.args.row c.loop-column.column c.loop-column.literals.items (let t = c.loop-column-test.false in omega arith) c.loop-column.invariant.0

pub returns-in_err-push : goal.returns-in_err-push
returns-in_err-push c = IfOk-from_err c.from_residual.result _ c.from_residual.ensures.0
