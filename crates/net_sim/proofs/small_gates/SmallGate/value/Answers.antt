use Rattle.std.proofs.Common.{length-take, take, arith}
use Rattle.net_sim.proofs.SmallGates.{word_place}
use Rattle.net_sim.proofs.small_gates.SmallGate.value.Goals as goal

pub overflow_shr-result : goal.overflow_shr-result
overflow_shr-result c =
    let small = c.args.self.now in
    word_place c.args.signals.now (take small.count small.inputs) c.number_at-number.result (omega (arith, small.few, length-take small.count small.inputs)) c.number_at-number.ensures
