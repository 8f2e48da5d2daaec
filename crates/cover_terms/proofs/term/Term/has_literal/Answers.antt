use Rattle.std.proofs.Common.{not, ap, sym, ◌∙◌}
use Rattle.std.proofs.lemmas.Bool.{false≢true}
use Rattle.cover_terms.specs.Laws.Bits.{literal_from_masks, masks_from_literal, masked_zero, test_from_zero, zero_is_not_one}
use Rattle.cover_terms.proofs.term.Term.has_literal.Goals as goal

pub returns-then-self-bit-ne0 : goal.returns-then-self-bit-ne0
returns-then-self-bit-ne0 c = (
  λ h. literal_from_masks c.args.self.care c.args.self.value c.args.column c.args.one c.requires c.if-self-bit-ne0.true h,
  λ l. masks_from_literal c.args.self.value c.args.column c.args.one c.requires l.1,
)

pub returns-else-self-bit-ne0 : goal.returns-else-self-bit-ne0
returns-else-self-bit-ne0 c =
    (λ h. absurd (false≢true (sym (ap not (test_from_zero _ c.if-self-bit-ne0.false)) ∙ h)), λ l. absurd (zero_is_not_one _ (masked_zero c.args.self.care c.args.column c.requires c.if-self-bit-ne0.false) l.0))
