use Rattle.std.proofs.Common.{All, take}
use Rattle.machine_table.specs.Pairs.{HaveOneBit}
use Rattle.least_codes.proofs.table.keeps_bit.Given as goal

abbrev pub invariant-loop-image : goal.invariant-loop-image
invariant-loop-image l = All (λ image. HaveOneBit l.words l.i image.0 image.1) (take l.image-index l.image-items)
