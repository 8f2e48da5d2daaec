use Rattle.std.proofs.Common.{◌++◌, [], ◌∷◌, ap, sym, ◌∙◌}
use Rattle.std.proofs.lemmas.List.Elements.{filter-append}
use Rattle.std.proofs.lemmas.Result.{err_from_is_err_and}
use Rattle.kiss2.specs.declared.line_kind.LineKind.TheVariants.{Row}
use Rattle.kiss2.specs.Standing.{row_lines}
use Rattle.kiss2.specs.Words.{is_of_kind}
use Rattle.kiss2.specs.Laws.Faultless.{faultless_push}
use Rattle.kiss2.proofs.kept_lines.Kept.take_line.Goals as goal

pub returns-in_err-take_line : goal.returns-in_err-take_line
returns-in_err-take_line c = record {
  judged = λ before keeps.
      let p = err_from_is_err_and c.from_residual.result c.from_residual.ensures.1 in
      rw (p.1, p.2) (c.in_err-take_line.ensures.judged before keeps.stands);
}

pub returns : goal.returns
returns c = record {
  judged = λ before keeps.
      let judged = c.in_ok-take_line.ensures.judged before keeps.stands in (
        judged.0,
        record {
          stands = judged.1;
          small = c.in_ok-take_line.ensures.small;
          rows = c.in_ok-push_row.ensures ∙ (ap (λ rows. rows ++ row_lines (c.args.line ∷ [])) keeps.rows ∙ sym (filter-append (is_of_kind Row) before (c.args.line ∷ [])));
          faultless = faultless_push before c.args.line keeps.faultless judged.0;
        },
      );
}
