use Rattle.std.proofs.lemmas.Result.{IfOk-from_err}
use Rattle.std.proofs.Common.{sym, subst}
use Rattle.cover_terms.specs.declared.term.Term.{Term}
use Rattle.cover_logic.specs.Inner.Index.{terms_of}
use Rattle.cover_logic.specs.Inner.Rows.{IsGrown}
use Rattle.cover_logic.proofs.Raising.{grown_wider, grown_seed}
use Rattle.cover_logic.proofs.wide_rows.grow.Goals as goal
use Rattle.cover_logic.proofs.wide_rows.grow.Goals.{then-allow+in-Some+in_ok-add-in-Some, then-allow+in-None, else-allow}

pub loop-other-preserved : goal.loop-other-preserved
loop-other-preserved c =
    let P : Term → Type 0 = λ row. IsGrown c.args.seed (terms_of c.args.off.now) row in
    elim c.if-allow.branch [
      | then-allow+in-Some+in_ok-add-in-Some w ↦ subst P (sym w.row-is) c.loop-other.invariant
      | then-allow+in-None w ↦
          subst P (sym w.row-is)
          (grown_wider _ _ c.loop-other.row _ c.loop-other.invariant c.joined-joined.ensures.left c.joined-joined.ensures.care w.in-None.ensures)
      | else-allow w ↦ subst P (sym w.row-is) c.loop-other.invariant
    ]

pub loop-other-init : goal.loop-other-init
loop-other-init c = grown_seed c.args.seed (terms_of c.args.off.now) c.requires

pub loop-other-preserved-then-includes : goal.loop-other-preserved-then-includes
loop-other-preserved-then-includes c = c.loop-other.invariant

pub returns : goal.returns
returns c = c.loop-other.invariant

pub returns-in_err-add-in-Some : goal.returns-in_err-add-in-Some
returns-in_err-add-in-Some c = IfOk-from_err c.from_residual.result _ c.from_residual.ensures.0
