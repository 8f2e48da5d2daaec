use Rattle.std.proofs.Common.{◌≡◌, map, take}
use Rattle.state_reduce.specs.Inner.BlockNames.{kept_of}
use Rattle.state_reduce.specs.Quotient.{row_of_blocks}
use Rattle.state_reduce.proofs.block_machine.rows_of_blocks.Given as goal

abbrev pub invariant-loop-row : goal.invariant-loop-row
invariant-loop-row l = l.rows ≡ map (row_of_blocks l.file l.p) (kept_of l.p (take l.row-index l.row-items))
