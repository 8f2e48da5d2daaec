use Rattle.std.proofs.Common.{ℕ, ◌<◌, length, arith}
use Rattle.std.proofs.lemmas.List.{length-map}
use Rattle.net_core.specs.Inner.Walk.{reads_of}
use Rattle.net_core.proofs.Stages.{sequence_from_walk}
use Rattle.net_core.proofs.walk.sequence.Goals as goal

pub returns-clause-ok : goal.returns-clause-ok
returns-clause-ok c =
    let walk = c.loop-gate.walk in
    let reads = reads_of c.args.gates.now in
    sequence_from_walk c.args.base reads walk.stages.items walk.path.items walk.placed.items c.loop-gate.invariant.0 c.loop-gate.invariant.1
    (λ (g : ℕ) (lt : g < length reads). c.loop-gate.invariant.2 g (omega (arith, lt, length-map c.args.gates.now (λ gate. gate.inputs.items), c.loop-gate-test.false)))
