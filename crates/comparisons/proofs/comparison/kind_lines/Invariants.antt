use Rattle.std.proofs.Common.{Bool, take}
use Rattle.comparisons.specs.Inner.KindLines.{HasKindLines}
use Rattle.state_reduce.specs.Work.{IsWork}
use Rattle.comparisons.proofs.comparison.kind_lines.Given as goal

abbrev pub invariant-loop-kind : goal.invariant-loop-kind
invariant-loop-kind l = (reduce : Bool) → IsWork reduce l.work.file.now l.work → HasKindLines reduce l.work.file.now (take l.kind-index l.compared) l.text.items
