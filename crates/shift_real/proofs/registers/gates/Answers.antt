use Rattle.std.proofs.Common.{ℕ, ◌*◌, ap, ◌∙◌, List, sym, subst, arith}
use Rattle.shift_real.specs.Inner.Tables.{IsStateTable}
use Rattle.shift_real.specs.Inner.Contents.{AreContents}
use Rattle.shift_real.specs.declared.contents.Content.{Content}
use Rattle.shift_real.proofs.ShiftNetworks.{gates_built}
use Rattle.shift_real.proofs.registers.gates.Goals as goal

pub returns : goal.returns
returns c =
    gates_built c.args.m.now c.args.held.now.order c.args.names.now c.new-gates.result c.add_latch_gates.new.gates c.add_output_gates.new.gates _ c.new-gates.ensures (ap (λ (n : ℕ). c.args.held.now.order * n) (c.from-inputs.ensures ∙ c.inputs.ensures.count))
    c.in_ok-add_latch_gates.ensures c.in_ok-add_output_gates.ensures

pub state_table-requires-clause-short : goal.state_table-requires-clause-short
state_table-requires-clause-short c = c.requires.held.short

pub state_table-requires-clause-contents : goal.state_table-requires-clause-contents
state_table-requires-clause-contents c = subst (λ (list : List Content). AreContents c.args.m.now c.args.held.now.order list) (sym c.deref.ensures.value) c.requires.held.contents

pub overflow_mul-held : goal.overflow_mul-held
overflow_mul-held c = omega (arith, ap (λ (n : ℕ). c.args.held.now.order * n) (c.from-inputs.ensures ∙ c.inputs.ensures.count), c.requires.held.short)

pub add_latch_gates-requires-clause-inputs : goal.add_latch_gates-requires-clause-inputs
add_latch_gates-requires-clause-inputs c = c.requires.names.latch_inputs ∙ sym (ap (λ (n : ℕ). c.args.held.now.order * n) (c.from-inputs.ensures ∙ c.inputs.ensures.count))

pub add_latch_gates-requires-clause-outputs : goal.add_latch_gates-requires-clause-outputs
add_latch_gates-requires-clause-outputs c = c.requires.names.latch_outputs ∙ sym (ap (λ (n : ℕ). c.args.held.now.order * n) (c.from-inputs.ensures ∙ c.inputs.ensures.count))

pub add_latch_gates-requires-clause-some : goal.add_latch_gates-requires-clause-some
add_latch_gates-requires-clause-some c = omega (arith, c.inputs.ensures.some, c.inputs.ensures.count, c.requires.names.inputs)

pub add_output_gates-requires-clause-short : goal.add_output_gates-requires-clause-short
add_output_gates-requires-clause-short c = c.requires.held.short

pub add_output_gates-requires-clause-names : goal.add_output_gates-requires-clause-names
add_output_gates-requires-clause-names c = c.requires.names

pub add_output_gates-requires-clause-table : goal.add_output_gates-requires-clause-table
add_output_gates-requires-clause-table c = subst (IsStateTable c.args.m.now c.args.held.now.order) (sym c.deref-2.ensures.value) c.in_ok-table.ensures
