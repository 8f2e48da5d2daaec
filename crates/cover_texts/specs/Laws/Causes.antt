-- Laws of the cause: it has one answer.
use Rattle.std.proofs.Common.{ℕ, List, ap}
use Rattle.answers.specs.declared.numbers.Answer.TheVariants as answers
use Rattle.answers.specs.Laws.Causes.{HasOneAnswer, IsOf, one_of}
use Rattle.answers.specs.Refusal.{answer_of}
use Rattle.kiss_file.specs.declared.file.KissFile.{KissFile}
use Rattle.cover_texts.specs.Flaws.{BadCoverRow}

pub bad_cover_is_of : (F : KissFile) (text : List ℕ) → IsOf answers.CoverRefused (BadCoverRow F text)
bad_cover_is_of F text refusal (flaw, is, wrong) = ap answer_of is

pub bad_cover_one : (F : KissFile) (text : List ℕ) → HasOneAnswer (BadCoverRow F text)
bad_cover_one F text = one_of answers.CoverRefused (BadCoverRow F text) (bad_cover_is_of F text)
