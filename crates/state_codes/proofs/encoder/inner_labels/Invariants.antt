use Rattle.std.proofs.Common.{take}
use Rattle.state_codes.specs.Code.{AreInside}
use Rattle.state_codes.proofs.encoder.inner_labels.Given as goal

abbrev pub invariant-loop-part : goal.invariant-loop-part
invariant-loop-part l = AreInside (take l.part-index l.parts) l.inners.items
