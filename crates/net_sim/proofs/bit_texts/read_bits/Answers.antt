use Rattle.std.proofs.Common.{◌≡◌, length, arith, ◌∙◌, sym}
use Rattle.std.proofs.lemmas.Bool.{eqb-false}
use Rattle.net_sim.proofs.Texts.{bit_text_some}
use Rattle.net_sim.proofs.bit_texts.read_bits.Goals as goal

pub returns-then-text-bits-clause-refused : goal.returns-then-text-bits-clause-refused
returns-then-text-bits-clause-refused c =
    λ is others n e.
    let some : length c.args.bits.now ≡ 0 → ⊥ = eqb-false (length c.args.bits.now) 0 (sym c.is_empty.ensures ∙ c.if-is_empty.false) in
    c.read_characters.ensures.refused is others (e ∙ bit_text_some others (omega (arith, some)))
