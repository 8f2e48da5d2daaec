use Rattle.std.proofs.Common.{ℕ, List, length, sym, subst, arith}
use Rattle.shift_real.specs.Inner.OutputReads.{AreEffectsAfter}
use Rattle.shift_real.specs.Inner.Latches.{AddsOutputGates}
use Rattle.dependence.specs.declared.effects.Effect.{Effect}
use Rattle.shift_real.proofs.GateLists.{gates_more}
use Rattle.shift_real.proofs.output_gates.add_output_gates.Goals as goal

pub loop-b-preserved : goal.loop-b-preserved
loop-b-preserved c = gates_more c.args.m.now c.args.k c.args.names.now c.loop-b.b c.args.gates.now c.loop-b.gates c.push.new.self _ c.loop-b.invariant c.in_ok-output_gate.ensures c.in_ok-push.ensures.ok

pub output_gate-requires-clause-short : goal.output_gate-requires-clause-short
output_gate-requires-clause-short c = c.requires.short

pub output_gate-requires-clause-names : goal.output_gate-requires-clause-names
output_gate-requires-clause-names c = c.requires.names

pub output_gate-requires-clause-table : goal.output_gate-requires-clause-table
output_gate-requires-clause-table c = c.requires.table

pub output_gate-requires-clause-effects : goal.output_gate-requires-clause-effects
output_gate-requires-clause-effects c =
    subst (λ (effects : List Effect). AreEffectsAfter c.args.m.now c.args.table.now (length c.args.m.now.states) effects) (sym c.deref.ensures.value) c.in_ok-effects.ensures

pub output_gate-requires-clause-output : goal.output_gate-requires-clause-output
output_gate-requires-clause-output c = omega (arith, c.loop-b-test.true, c.outputs-b-end.ensures.count)

pub loop-b-init : goal.loop-b-init
loop-b-init c = record {
  count = omega arith;
  kept = λ at gate is. is;
  each = λ b below. absurd (omega (arith, below));
}

pub returns : goal.returns
returns c =
    subst (λ (b : ℕ). AddsOutputGates c.args.m.now c.args.k c.args.names.now b c.args.gates.now c.loop-b.gates) (omega (arith, c.loop-b-test.false, c.loop-b.auto.b-end, c.outputs-b-end.ensures.count)) c.loop-b.invariant
