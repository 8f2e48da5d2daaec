use Rattle.std.proofs.Common.{◌≡◌}
use Rattle.kiss_file.specs.NumberedNames.{numbered_names}
use Rattle.kiss_file.proofs.number_names.numbered_names.Given as goal

abbrev pub invariant-loop-number : goal.invariant-loop-number
invariant-loop-number l = l.names ≡ numbered_names l.number
