use Rattle.std.proofs.Common.{◌≡◌, take}
use Rattle.least_codes.specs.Inner.Parts.{bit_labels}
use Rattle.least_codes.proofs.bit_parts.labels_by.Given as goal

abbrev pub invariant-loop-word : goal.invariant-loop-word
invariant-loop-word l = l.labels.items ≡ bit_labels l.i (take l.word-index l.words)
