use Rattle.std.proofs.Common.{◌+◌, length}
use Rattle.texts_cases.proofs.line_texts.put_content.Given as goal

abbrev pub decreases-loop-field : goal.decreases-loop-field
decreases-loop-field l = length l.field + length l.rest
