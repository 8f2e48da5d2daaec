use Rattle.std.proofs.Common.{ap, ◌∙◌}
use Rattle.gate_rows.specs.Laws.Ranges.{map-range-push}
use Rattle.shift_real.specs.Gates.{taking}
use Rattle.shift_real.specs.Inner.Latches.{latch_gate, taken_by}
use Rattle.shift_real.proofs.latches.add_latch_gates.Goals as goal

pub loop-i-preserved : goal.loop-i-preserved
loop-i-preserved c =
    map-range-push (latch_gate c.args.names.now) c.args.gates.now c.loop-i.gates _ c.loop-i.i _ c.loop-i.invariant c.in_ok-push.ensures.ok
    (c.in_ok-taking_gate.ensures
    ∙ (ap (λ signal. taking signal c.in_ok-name.name) c.in_ok-signal.ensures
    ∙ ap (λ name. taking (taken_by c.args.names.now c.loop-i.i) name) c.in_ok-name.ensures))
