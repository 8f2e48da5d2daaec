use Rattle.std.proofs.Common.{◌≡◌, ◌++◌, take}
use Rattle.kiss2.specs.Standing.{each_once}
use Rattle.state_reduce.specs.Inner.BlockNames.{currents_of, nexts_of}
use Rattle.state_reduce.proofs.block_machine.add_nexts.Given as goal

abbrev pub invariant-loop-row : goal.invariant-loop-row
invariant-loop-row l =
    l.states ≡ each_once (currents_of l.file l.p l.file.rows ++ nexts_of l.file l.p (take l.row-index l.row-items))
