use Rattle.std.proofs.Common.{◌<◌, ℕ, Bool, List, false, get_or, length, sym, ◌∙◌, ap, subst}
use Rattle.cubes.specs.Symbol.{number_of}
use Rattle.net_sim.specs.Inner.GateValues.{bits_at}
use Rattle.net_sim.specs.Inner.Forms.{IsForm}
use Rattle.net_sim.proofs.FormValues.{bits_of_number, number_within, place_within, value_there}
use Rattle.net_sim.proofs.SmallGates.{value_of_small}
use Rattle.net_sim.proofs.gate_values.value_by.Goals as goal

pub bounds-as_slice-number_at : goal.bounds-as_slice-number_at
bounds-as_slice-number_at c =
    let gate = c.args.gate.now in
    subst (λ (table : List Bool). c.number_at.result < length table) (sym c.as_slice.ensures)
    (place_within gate c.in-Table.table c.args.signals.now (subst (IsForm gate) c.in-Table.is c.requires.form) c.number_at.result
    (c.number_at.ensures ∙ ap (λ (numbers : List ℕ). number_of (bits_at c.args.signals.now numbers)) c.deref.ensures.value))

pub returns-in-Table : goal.returns-in-Table
returns-in-Table c =
    let gate = c.args.gate.now in
    ap (λ (table : List Bool). get_or table c.number_at.result false) c.as_slice.ensures
    ∙ value_there gate c.in-Table.table c.args.signals.now (subst (IsForm gate) c.in-Table.is c.requires.form) c.number_at.result
    (c.number_at.ensures ∙ ap (λ (numbers : List ℕ). number_of (bits_at c.args.signals.now numbers)) c.deref.ensures.value)

pub value_of_cubes-requires-clause-number : goal.value_of_cubes-requires-clause-number
value_of_cubes-requires-clause-number c =
    number_within c.args.gate.now c.args.signals.now c.number_at-in-Cubes.result
    (c.number_at-in-Cubes.ensures ∙ ap (λ (numbers : List ℕ). number_of (bits_at c.args.signals.now numbers)) c.deref-in-Cubes.ensures.value)

pub returns-in-Cubes : goal.returns-in-Cubes
returns-in-Cubes c =
    c.value_of_cubes.ensures
    ∙ bits_of_number c.args.gate.now c.args.signals.now c.number_at-in-Cubes.result
    (c.number_at-in-Cubes.ensures ∙ ap (λ (numbers : List ℕ). number_of (bits_at c.args.signals.now numbers)) c.deref-in-Cubes.ensures.value)

pub returns-in-Small : goal.returns-in-Small
returns-in-Small c =
    let gate = c.args.gate.now in
    c.value.ensures ∙ value_of_small gate c.in-Small.small c.args.signals.now (subst (IsForm gate) c.in-Small.is c.requires.form)
