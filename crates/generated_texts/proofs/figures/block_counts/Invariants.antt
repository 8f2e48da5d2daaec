-- The numbers of the parts so far.
use Rattle.std.proofs.Common.{◌≡◌, map, take}
use Rattle.partition.specs.Partition.{blocks_of}
use Rattle.generated_texts.proofs.figures.block_counts.Given as goal

abbrev pub invariant-loop-part : goal.invariant-loop-part
invariant-loop-part l = l.counts ≡ map (λ part. blocks_of part.partition) (take l.part-index l.parts)
