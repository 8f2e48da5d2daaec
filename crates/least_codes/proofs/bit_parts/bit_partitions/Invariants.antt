use Rattle.least_codes.specs.Inner.Parts.{AreBitLabels}
use Rattle.least_codes.proofs.bit_parts.bit_partitions.Given as goal

abbrev pub invariant-loop-i : goal.invariant-loop-i
invariant-loop-i l = AreBitLabels l.i l.words l.partitions.items
