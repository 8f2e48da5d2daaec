use Rattle.std.proofs.Common.{Bool, not, if◌then◌else◌, sym, ◌∙◌, ap}
use Rattle.net_sim.proofs.FormValues.{same_width}
use Rattle.net_sim.proofs.gate_values.value_of_cubes.Goals as goal

pub returns-then-held : goal.returns-then-held
returns-then-held c =
    let gate = c.args.gate.now in
    ap (λ (b : Bool). if b then gate.on else not gate.on)
    (sym c.if-held.true ∙ (c.is_held-held.ensures ∙ same_width gate c.args.cubes.now c.args.number c.requires.cubes))

pub returns-else-held : goal.returns-else-held
returns-else-held c =
    let gate = c.args.gate.now in
    ap (λ (b : Bool). if b then gate.on else not gate.on)
    (sym c.if-held.false ∙ (c.is_held-held.ensures ∙ same_width gate c.args.cubes.now c.args.number c.requires.cubes))
