-- There are as many words as arguments so far, and they are theirs.
use Rattle.std.proofs.Common.{◌≤◌, length}
use Rattle.hsdec_program.proofs.ToldWords.{AreToldBelow}
use Rattle.hsdec_program.proofs.arguments.words_of.Given as goal

abbrev pub invariant-loop-number : goal.invariant-loop-number
invariant-loop-number g l = (length l.words ≤ l.number) × AreToldBelow (g.A.Arguments.given l.arguments) l.number l.words
