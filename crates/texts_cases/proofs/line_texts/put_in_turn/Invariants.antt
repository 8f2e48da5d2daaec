use Rattle.std.proofs.Common.{length}
use Rattle.texts_cases.proofs.line_texts.put_in_turn.Given as goal

abbrev pub decreases-loop-rest : goal.decreases-loop-rest
decreases-loop-rest l = length l.rest
