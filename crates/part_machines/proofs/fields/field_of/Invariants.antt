use Rattle.std.proofs.Common.{take}
use Rattle.part_machines.specs.Inner.Turning.{AreTurns}
use Rattle.part_machines.proofs.fields.field_of.Given as goal

abbrev pub invariant-loop-other : goal.invariant-loop-other
invariant-loop-other l = AreTurns (take l.other-index l.shown) l.value l.width l.care
