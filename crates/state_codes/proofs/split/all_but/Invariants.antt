use Rattle.std.proofs.Common.{◌≡◌}
use Rattle.state_codes.specs.Split.{others}
use Rattle.state_codes.proofs.split.all_but.Given as goal

abbrev pub invariant-loop-part : goal.invariant-loop-part
invariant-loop-part l = l.numbers ≡ others l.part l.j
