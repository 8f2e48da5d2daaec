-- The labels of the words so far.
use Rattle.decomposition.specs.Inner.Labels.{AreLabelled}
use Rattle.decomposition.proofs.labels.labels_by.Given as goal

abbrev pub invariant-loop-word : goal.invariant-loop-word
invariant-loop-word l = AreLabelled l.words l.set l.seen.items l.labels.items l.word-index
