use Rattle.std.proofs.Common.{refl, sym, ◌∙◌}
use Rattle.std.proofs.lemmas.Bool.{false≢true}
use Rattle.cover_terms.specs.Laws.Terms.{inside_with, inside_more, split_by, split_care, split_fits}
use Rattle.cover_terms.proofs.term.Term.with_literal.Goals as goal
use Rattle.cover_terms.proofs.term.Term.with_literal.Goals.{then-one, else-one}

pub invariant_of-result : goal.invariant_of-result
invariant_of-result c = record {
  inside = elim c.if-one.branch [ then-one w ↦ rw w.value-is (inside_with c.args.self _) | else-one w ↦ rw w.value-is (inside_more c.args.self _) ];
}

pub returns-clause-half : goal.returns-clause-half
returns-clause-half c =
    split_by c.args.self c.args.column c.args.one _ c.requires.column c.requires.dash refl
    (λ e. elim c.if-one.branch [ then-one w ↦ w.value-is | else-one w ↦ absurd (false≢true (sym w.if-one.false ∙ e)) ])
    (λ e. elim c.if-one.branch [ then-one w ↦ absurd (false≢true (sym e ∙ w.if-one.true)) | else-one w ↦ w.value-is ])

pub returns-clause-care : goal.returns-clause-care
returns-clause-care c = split_care c.args.self.care c.args.column c.requires.column c.requires.dash

pub returns-clause-fits : goal.returns-clause-fits
returns-clause-fits c = λ w below fits. split_fits c.args.self.care c.args.column w c.requires.column below fits
