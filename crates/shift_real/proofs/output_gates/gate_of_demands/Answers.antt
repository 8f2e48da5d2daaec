use Rattle.std.proofs.Common.{ℕ, List, subst, sym, ◌<◌, ◌∙◌, All, true, length, refl, ap, arith, ◌≡◌, false, ◌++◌, map}
use Rattle.std.specs.Cmp.Lexicographic.{slice_cmp}
use Rattle.std.specs.List.Sorted.{IsSorted}
use Rattle.std.specs.Ordering.{nat_cmp}
use Rattle.gate_rows.specs.declared.demands.Demand.{Demand}
use Rattle.gate_rows.specs.Columns.{column_count}
use Rattle.gate_rows.specs.GateCovers.{IsGoodCover}
use Rattle.net_core.specs.declared.SignalNames.{SignalNames}
use Rattle.shift_real.specs.Inner.DemandedGate.{IsGateOfDemands}
use Rattle.net_core.specs.declared.Gate.{Gate}
use Rattle.gate_rows.specs.Names.{name_at}
use Rattle.gate_rows.specs.Demands.{NeverContradict, CanBeRead, IsAsked}
use Rattle.shift_real.proofs.output_gates.gate_of_demands.Goals as goal

pub demanded_rows-requires-clause-apart : goal.demanded_rows-requires-clause-apart
demanded_rows-requires-clause-apart c =
    subst (λ (list : List ℕ). NeverContradict list c.as_slice-latches.result.now c.args.demands.now) (sym c.as_slice-inputs.ensures)
    (subst (λ (list : List ℕ). NeverContradict c.args.set.now.inputs list c.args.demands.now) (sym c.as_slice-latches.ensures) c.requires.apart)

pub name_from-requires : goal.name_from-requires
name_from-requires c = omega (arith, c.from.ensures, c.requires.output)

pub listed_names-requires-clause-inputs : goal.listed_names-requires-clause-inputs
listed_names-requires-clause-inputs c = subst (All (λ a. a < length c.args.names.now.inputs)) (sym c.as_slice-inputs.ensures) c.requires.inputs

pub listed_names-requires-clause-latches : goal.listed_names-requires-clause-latches
listed_names-requires-clause-latches c = subst (All (λ l. l < length c.args.names.now.latch_outputs)) (sym c.as_slice-latches.ensures) c.requires.latches

pub demanded_rows-requires-clause-read : goal.demanded_rows-requires-clause-read
demanded_rows-requires-clause-read c =
    subst (λ (list : List ℕ). CanBeRead list c.as_slice-latches.result.now c.args.demands.now) (sym c.as_slice-inputs.ensures)
    (subst (λ (list : List ℕ). CanBeRead c.args.set.now.inputs list c.args.demands.now) (sym c.as_slice-latches.ensures) c.requires.read)

-- a gate that has these names and rows, where equal lists are lent for the sets
gate_of : (names : SignalNames) (b from : ℕ) (inputs latches lent lent_too : List ℕ) (demands : List Demand) (gate : Gate) → from ≡ b → lent ≡ inputs → lent_too ≡ latches
    → gate.on ≡ true → gate.output ≡ name_at names.outputs from → gate.inputs ≡ map (name_at names.inputs) lent ++ map (name_at names.latch_outputs) lent_too
    → IsGoodCover (IsAsked lent lent_too true demands) (IsAsked lent lent_too false demands) gate.rows
    → All (λ row. length row ≡ column_count lent lent_too) gate.rows → IsSorted (slice_cmp nat_cmp) gate.rows
    → IsGateOfDemands names b inputs latches demands gate
gate_of names b from inputs latches lent lent_too demands gate at first second on output listed cover widths in_order =
    subst (λ (list : List ℕ). IsGateOfDemands names b list latches demands gate) first
    (subst (λ (list : List ℕ). IsGateOfDemands names b lent list demands gate) second
    (record { on = on; output = output ∙ ap (name_at names.outputs) at; listed = listed; cover = cover; widths = widths; in_order = in_order }))

pub returns : goal.returns
returns c =
    let gate : Gate = record { inputs = c.in_ok-gate.field-0; output = c.in_ok-name_from.field-0; rows = c.in_ok-gate-2.field-0; on = true } in
    let rows = c.in_ok-gate-2.ensures in
    gate_of c.args.names.now c.args.b c.from.result c.args.set.now.inputs c.args.set.now.latches c.as_slice-inputs.result.now c.as_slice-latches.result.now c.args.demands.now gate c.from.ensures c.as_slice-inputs.ensures c.as_slice-latches.ensures
    refl c.in_ok-name_from.ensures c.in_ok-gate.ensures rows.cover rows.widths rows.in_order
