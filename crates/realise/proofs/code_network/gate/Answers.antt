use Rattle.std.proofs.Common.{List, ℕ, ◌++◌, map, ap, refl, true, ◌∙◌}
use Rattle.gate_rows.specs.Names.{name_at}
use Rattle.realise.proofs.GateLists.{bit_gate}
use Rattle.realise.proofs.code_network.gate.Goals as goal

pub returns : goal.returns
returns c =
    let names = c.args.names.now in
    let set = c.args.set.now in
    bit_gate c.args.m.now c.args.codes.now.words c.as_slice.result.now names set c.args.bit c.args.name
    (record { inputs = c.in_ok-listed_names.field-0; output = c.args.name; rows = c.in_ok-rows.rows; on = true })
    refl refl
    (c.in_ok-listed_names.ensures
    ∙ ap (λ (list : List ℕ). map (name_at names.inputs) list ++ map (name_at names.latch_outputs) c.as_slice-3.result.now) c.as_slice-2.ensures
    ∙ ap (λ (list : List ℕ). map (name_at names.inputs) set.inputs ++ map (name_at names.latch_outputs) list) c.as_slice-3.ensures)
    c.as_slice.ensures
    c.in_ok-rows.ensures.cover c.in_ok-rows.ensures.widths c.in_ok-rows.ensures.in_order
