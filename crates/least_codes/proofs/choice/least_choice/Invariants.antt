use Rattle.std.proofs.Common.{ℕ, ◌<◌}
use Rattle.least_codes.specs.Inner.Choice.{HasNone}
use Rattle.least_codes.proofs.choice.least_choice.Given as goal

abbrev pub invariant-loop-size : goal.invariant-loop-size
invariant-loop-size l = (fewer : ℕ) → fewer < l.size → HasNone l.question 0 0 fewer
