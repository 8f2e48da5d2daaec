use Rattle.std.proofs.Common.{◌∙◌, ℕ, Contains, List, sym, subst}
use Rattle.std.proofs.lemmas.Bool.{true≢false}
use Rattle.part_texts.proofs.Missing.{bitless, part_there}
use Rattle.part_texts.proofs.flaws.check.Goals as goal

pub returns-then-not-has_bits : goal.returns-then-not-has_bits
returns-then-not-has_bits c =
    bitless c.args.which c.args.parts.now c.args.codes.now c.in-Part.part c.in-Part.is c.requires c.if-part-parts.false
    (λ owned. true≢false (sym (c.has_bits.ensures.1 (subst (λ (list : List ℕ). Contains list c.in-Part.part) (sym c.as_slice.ensures) owned)) ∙ c.if-not-has_bits.true))

pub returns : goal.returns
returns c =
    part_there c.args.which c.args.parts.now c.args.codes.now c.in-Part.part c.in-Part.is c.requires c.if-part-parts.false
    (subst (λ (list : List ℕ). Contains list c.in-Part.part) c.as_slice.ensures (c.has_bits.ensures.0 c.if-not-has_bits.false))
