use Rattle.std.proofs.Common.{◌≡◌, map, take, Some}
use Rattle.net_core.specs.Step.{bit_of_start}
use Rattle.net_sim.proofs.starts.known_start.Given as goal

abbrev pub invariant-loop-latch : goal.invariant-loop-latch
invariant-loop-latch l = map (λ latch. bit_of_start latch.start) (take l.latch-index l.latches) ≡ map Some l.state
