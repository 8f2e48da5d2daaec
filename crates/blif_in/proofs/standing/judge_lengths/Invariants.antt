use Rattle.std.proofs.Common.{◌≡◌, drop}
use Rattle.blif_in.specs.Faults.{long_name}
use Rattle.blif_in.proofs.standing.judge_lengths.Given as goal

abbrev pub invariant-loop-name : goal.invariant-loop-name
invariant-loop-name l = long_name (drop l.name-index l.names) ≡ long_name l.names
