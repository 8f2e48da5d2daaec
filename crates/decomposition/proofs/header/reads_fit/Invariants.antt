-- Those of the parts so far.
use Rattle.std.proofs.Common.{All, take}
use Rattle.decomposition.specs.Inner.Header.{HasSmallReads}
use Rattle.decomposition.proofs.header.reads_fit.Given as goal

abbrev pub invariant-loop-part : goal.invariant-loop-part
invariant-loop-part l = All HasSmallReads (take l.part-index l.parts)
