use Rattle.std.proofs.lemmas.Result.{IfOk-from_err}
use Rattle.std.proofs.Common.{List, refl, sym, subst}
use Rattle.cover_terms.specs.declared.term.Term.{Term}
use Rattle.cover_logic.specs.Inner.Tables.{AreMarks}
use Rattle.cover_logic.proofs.Tables.{marks_none}
use Rattle.cover_logic.proofs.table.Table.new.Goals as goal

pub returns : goal.returns
returns c =
    let none = c.new.ensures.items in
    record {
      columns = refl;
      items = none;
      right = record {
        few = c.requires;
        told = subst (λ (ts : List Term). AreMarks c.args.width ts c.in_ok-marks.marks.items) (sym none) (marks_none c.args.width c.in_ok-marks.marks.items c.in_ok-marks.ensures);
      };
    }

pub blank-requires : goal.blank-requires
blank-requires c = c.requires

pub returns-in_err-marks : goal.returns-in_err-marks
returns-in_err-marks c = IfOk-from_err c.from_residual.result _ c.from_residual.ensures.0
