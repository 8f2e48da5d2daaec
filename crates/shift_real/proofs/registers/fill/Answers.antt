use Rattle.std.proofs.Common.{◌∙◌, ℕ, ◌*◌, ap, sym, subst, arith}
use Rattle.gate_rows.specs.Latches.{AreLatches}
use Rattle.shift_real.proofs.registers.fill.Goals as goal

pub overflow_mul-bits : goal.overflow_mul-bits
overflow_mul-bits c = omega (arith, ap (λ (n : ℕ). c.args.held.now.order * n) (c.from.ensures ∙ c.inputs.ensures.count), c.requires.held.short)

pub latches-requires-clause-short : goal.latches-requires-clause-short
latches-requires-clause-short c = omega (arith, ap (λ (n : ℕ). c.args.held.now.order * n) (c.from.ensures ∙ c.inputs.ensures.count), c.requires.held.short)

pub latches-requires-clause-inputs : goal.latches-requires-clause-inputs
latches-requires-clause-inputs c = c.requires.names.latch_inputs ∙ sym (ap (λ (n : ℕ). c.args.held.now.order * n) (c.from.ensures ∙ c.inputs.ensures.count))

pub latches-requires-clause-outputs : goal.latches-requires-clause-outputs
latches-requires-clause-outputs c = c.requires.names.latch_outputs ∙ sym (ap (λ (n : ℕ). c.args.held.now.order * n) (c.from.ensures ∙ c.inputs.ensures.count))

pub gates-requires-clause-held : goal.gates-requires-clause-held
gates-requires-clause-held c = c.requires.held

pub gates-requires-clause-names : goal.gates-requires-clause-names
gates-requires-clause-names c = c.requires.names

pub returns : goal.returns
returns c = record {
  inputs = c.in_ok-net.ensures ∙ c.as_slice.ensures;
  outputs = c.in_ok-net-2.ensures ∙ c.as_slice-2.ensures;
  latches =
      subst (λ (n : ℕ). AreLatches c.args.names.now n c.args.word c.in_ok-net-3.field-0) (ap (λ (n : ℕ). c.args.held.now.order * n) (c.from.ensures ∙ c.inputs.ensures.count))
      c.in_ok-net-3.ensures;
  gates = c.in_ok-net-4.ensures;
}
