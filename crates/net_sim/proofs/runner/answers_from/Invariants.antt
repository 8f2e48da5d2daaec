use Rattle.std.proofs.Common.{◌+◌, ◌≤◌, length}
use Rattle.net_sim.specs.Inner.RunProgress.{Fits, HasRunTo}
use Rattle.net_sim.proofs.runner.answers_from.Given as goal

abbrev pub invariant-loop-rest : goal.invariant-loop-rest
invariant-loop-rest l = record {
  fits : Fits l.order l.runner;
  ran : HasRunTo l.order l.fn.state.items l.symbols l.rest l.count l.runner;
  few : l.count + length l.rest ≤ length l.symbols;
}

abbrev pub decreases-loop-rest : goal.decreases-loop-rest
decreases-loop-rest l = length l.rest
