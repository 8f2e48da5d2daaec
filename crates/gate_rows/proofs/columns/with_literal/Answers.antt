use Rattle.std.proofs.Common.{refl, sym, ◌∙◌}
use Rattle.std.proofs.lemmas.Bool.{false≢true}
use Rattle.cover_terms.specs.Laws.Terms.{inside_more, inside_with}
use Rattle.gate_rows.proofs.Literals.{literal_fits, literal_holds}
use Rattle.gate_rows.proofs.columns.with_literal.Goals as goal
use Rattle.gate_rows.proofs.columns.with_literal.Goals.{then-one, else-one}

pub invariant_of-result : goal.invariant_of-result
invariant_of-result c = record {
  inside = elim c.if-one.branch [ then-one w ↦ rw w.value-is (inside_with c.args.term _) | else-one w ↦ rw w.value-is (inside_more c.args.term _) ];
}

pub returns-clause-fits : goal.returns-clause-fits
returns-clause-fits c = literal_fits c.args.term.care c.args.column c.requires.column c.requires.fits

pub returns-clause-holds : goal.returns-clause-holds
returns-clause-holds c =
    literal_holds c.args.term c.args.column c.args.one _ c.requires.column c.requires.fits refl
    (λ e. elim c.if-one.branch [ then-one w ↦ w.value-is | else-one w ↦ absurd (false≢true (sym w.if-one.false ∙ e)) ])
    (λ e. elim c.if-one.branch [ then-one w ↦ absurd (false≢true (sym e ∙ w.if-one.true)) | else-one w ↦ w.value-is ])
