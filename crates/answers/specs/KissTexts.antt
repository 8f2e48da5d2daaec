-- The text of each kind of fault in a KISS2 text.
use Rattle.std.specs.Prelude.{ℕ, List, codes}
use Rattle.kiss2.specs.declared.fault.KissKind.{KissKind}
use Rattle.kiss2.specs.declared.fault.KissKind.TheVariants.{BadByte, UnknownWord, BadNumber, Repeated, MissingCounts, BadFields, BadCube, BadOutput, AnyState, ResetUnknown, NoRows, OverLimit}
use Rattle.kiss2.specs.declared.fault.KissLimit.{KissLimit}
use Rattle.kiss2.specs.declared.fault.KissLimit.TheVariants.{Rows, States, Inputs, Outputs, NameBytes}
use Rattle.answers.specs.LimitTexts.{over_limit_text}

-- what there is too much of
abbrev pub limit_text : KissLimit → List ℕ
limit_text Rows = codes "rows"
limit_text States = codes "states"
limit_text Inputs = codes "inputs"
limit_text Outputs = codes "outputs"
limit_text NameBytes = codes "name"

abbrev pub kind_text : KissKind → List ℕ
kind_text BadByte = codes "bad byte"
kind_text UnknownWord = codes "unknown word"
kind_text BadNumber = codes "bad number"
kind_text Repeated = codes "repeated"
kind_text MissingCounts = codes "counts missing"
kind_text BadFields = codes "bad fields"
kind_text BadCube = codes "bad input field"
kind_text BadOutput = codes "bad output field"
kind_text AnyState = codes "any-state row"
kind_text ResetUnknown = codes "reset unknown"
kind_text NoRows = codes "no rows"
kind_text (OverLimit what found) = over_limit_text (limit_text what) found
