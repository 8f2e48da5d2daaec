-- The blocks of the states so far have their names.
use Rattle.std.proofs.Common.{◌≡◌, take}
use Rattle.partition.specs.Partition.{blocks_of}
use Rattle.part_texts.proofs.BlockNames.{first_names}
use Rattle.part_texts.proofs.blocks.block_names.Given as goal

abbrev pub invariant-loop-s : goal.invariant-loop-s
invariant-loop-s l = l.names ≡ first_names l.work.machine.states l.p (blocks_of (take l.s l.p))
