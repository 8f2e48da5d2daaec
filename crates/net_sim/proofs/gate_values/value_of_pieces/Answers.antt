use Rattle.std.proofs.Common.{Bool, List, ℕ, not, if◌then◌else◌, sym, ◌∙◌, ap, subst}
use Rattle.net_sim.specs.Inner.GateValues.{bits_at}
use Rattle.net_sim.specs.Inner.Pieces.{AreNumbersOf}
use Rattle.net_sim.proofs.WideRows.{below_there, held_there}
use Rattle.net_sim.proofs.gate_values.value_of_pieces.Goals as goal

pub holds_some-held-requires : goal.holds_some-held-requires
holds_some-held-requires c =
    below_there c.args.gate.now c.args.rows.now c.args.signals.now c.requires.wide c.number_pieces.new.numbers
    (subst (λ (inputs : List ℕ). AreNumbersOf (bits_at c.args.signals.now inputs) c.number_pieces.new.numbers) c.deref.ensures.value c.number_pieces.ensures)

pub returns-then-held : goal.returns-then-held
returns-then-held c =
    let gate = c.args.gate.now in
    ap (λ (b : Bool). if b then gate.on else not gate.on)
    (sym c.if-held.true
    ∙ (c.holds_some-held.ensures
    ∙ held_there gate c.args.rows.now c.args.signals.now c.requires.wide c.number_pieces.new.numbers
    (subst (λ (inputs : List ℕ). AreNumbersOf (bits_at c.args.signals.now inputs) c.number_pieces.new.numbers) c.deref.ensures.value c.number_pieces.ensures)))

pub returns-else-held : goal.returns-else-held
returns-else-held c =
    let gate = c.args.gate.now in
    ap (λ (b : Bool). if b then gate.on else not gate.on)
    (sym c.if-held.false
    ∙ (c.holds_some-held.ensures
    ∙ held_there gate c.args.rows.now c.args.signals.now c.requires.wide c.number_pieces.new.numbers
    (subst (λ (inputs : List ℕ). AreNumbersOf (bits_at c.args.signals.now inputs) c.number_pieces.new.numbers) c.deref.ensures.value c.number_pieces.ensures)))
