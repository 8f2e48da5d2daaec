use Rattle.std.proofs.Common.{◌∙◌, sym, ⊎_elim}
use Rattle.std.proofs.lemmas.Bool.{false≢true}
use Rattle.cover_logic.proofs.Literals.{some_literal}
use Rattle.cover_logic.proofs.bundles.literal_at.Goals as goal

pub returns : goal.returns
returns c = λ looks. ⊎_elim (λ one. false≢true (sym c.if-has_literal.false ∙ c.has_literal.ensures.1 one))
    (λ zero. false≢true (sym c.if-has_literal-2.false ∙ c.has_literal-2.ensures.1 zero)) (some_literal c.args.row c.args.column looks)
