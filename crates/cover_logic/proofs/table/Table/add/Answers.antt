use Rattle.std.proofs.lemmas.Result.{IfOk-from_err}
use Rattle.std.proofs.Common.{◌≡◌, ◌∙◌, ℕ, List, [], ◌∷◌, ◌++◌, refl, sym, subst}
use Rattle.std.proofs.lemmas.List.{with_items_is}
use Rattle.cover_terms.specs.declared.term.Term.{Term}
use Rattle.cover_terms.specs.Charts.{IsFilled}
use Rattle.cover_logic.specs.Inner.Tables.{AreMarks}
use Rattle.cover_logic.proofs.Tables.{marks_more}
use Rattle.cover_logic.proofs.table.Table.add.Goals as goal

pub returns : goal.returns
returns c =
    let width = c.args.self.now.width in
    let terms = c.args.self.now.terms.items in
    let marks = c.fill.new.chart in
    let filled : IsFilled width c.args.term 1 c.args.self.now.marks.items marks =
    subst (λ (ns : List ℕ). IsFilled width c.args.term 1 ns marks) c.deref_mut.ensures.value c.fill.ensures in
    let pushed : c.push.new.self.items ≡ terms ++ c.args.term ∷ [] = c.in_ok-push.ensures.items in
    let told : AreMarks width c.push.new.self.items marks =
    subst (λ (ts : List Term). AreMarks width ts marks) (sym pushed)
    (marks_more width terms c.args.term c.args.self.now.marks.items marks c.requires.table.told c.requires.fits filled) in
    let kept = with_items_is c.args.self.now.marks marks (c.fill.ensures.size ∙ c.deref_mut.ensures.len) in
    record {
      columns = refl;
      items = pushed;
      right = record { few = c.requires.table.few; told = subst (λ (ns : List ℕ). AreMarks width c.push.new.self.items ns) (sym kept) told };
    }

pub fill-requires-clause-few : goal.fill-requires-clause-few
fill-requires-clause-few c = c.requires.table.few

pub fill-requires-clause-fits : goal.fill-requires-clause-fits
fill-requires-clause-fits c = c.requires.fits

pub returns-in_err-push : goal.returns-in_err-push
returns-in_err-push c = IfOk-from_err c.from_residual.result _ c.from_residual.ensures.0
