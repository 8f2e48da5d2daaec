use Rattle.std.proofs.Common.{◌≡◌, take}
use Rattle.partition.specs.Text.{labels_text}
use Rattle.partition.proofs.text.written.Given as goal

abbrev pub invariant-loop-s : goal.invariant-loop-s
invariant-loop-s l = l.text.items ≡ labels_text (take l.s l.labels)
