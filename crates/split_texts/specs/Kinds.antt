-- The kinds of decomposition in one table (source: Hartmanis and Stearns; for least codes this project). Parts are
-- best of their kind if no step of the decomposition can be taken in smaller steps.
use Rattle.std.specs.Prelude.{◌≡◌, ⊤, ℕ, List, length}
use Rattle.answers.specs.Cause.{Cause}
use Rattle.feedback_split.specs.Best.{IsBestFeedback}
use Rattle.feedback_split.specs.Choice.{IsFeedbackChoice}
use Rattle.feedback_split.specs.Kind.{IsFeedback}
use Rattle.kiss_file.specs.declared.file.KissFile.{KissFile}
use Rattle.least_codes.specs.Kind.{GiveLeastCode, IsLeastSplit}
use Rattle.mm_lattice.specs.Top.{RightsAreTrivial}
use Rattle.net_core.specs.declared.Network.{Network}
use Rattle.parallel_split.specs.Best.{IsBestParallel}
use Rattle.parallel_split.specs.Choice.{IsParallelChoice}
use Rattle.parallel_split.specs.Kind.{HasNoneInParallel, IsParallel}
use Rattle.operands.specs.PartFaults.{BadParts}
use Rattle.serial_split.specs.Best.{IsBestCascade, IsBestSerial}
use Rattle.serial_split.specs.Choice.{IsCascadeChoice, IsSerialChoice}
use Rattle.serial_split.specs.Kind.{HasNoneNontrivial, IsCascade, IsSerial}
use Rattle.state_codes.specs.declared.Codes.{Codes}
use Rattle.state_codes.specs.declared.split.Kind.{Kind}
use Rattle.state_codes.specs.declared.split.Kind.TheVariants.{Code, Assign, Parallel, Serial, Cascade, Feedback, Least}
use Rattle.state_codes.specs.declared.split.Part.{Part}
use Rattle.split_texts.specs.GivenParts.{AreGivenParts, code_parts}
use Rattle.split_texts.specs.LeastNetwork.{HasOtherCount, IsLeastNetwork}

-- What is stated for each kind, of the operand PARTS, a machine and parts of it:
-- - `refuses`: what the kind refuses before a split is sought;
-- - `asks`: what it asks of the parts;
-- - `best`: what makes them best;
-- - `choice`: which of several right lists of parts they are;
-- - `none`: for which machines there are none;
-- - `promises`: what it promises of the codes and the network, besides what holds for each kind.
pub record KindRow : Type 1 where
  pub refuses : List ℕ → KissFile → Cause
  pub asks : List ℕ → KissFile → List Part → Type 0
  pub best : KissFile → List Part → Type 0
  pub choice : KissFile → List Part → Type 0
  pub none : KissFile → Type 0
  pub promises : KissFile → Codes → Network → Type 0

-- the row of each kind
abbrev pub row_of : Kind → KindRow
row_of Code = record {
  refuses = λ text W refusal. ⊥;
  asks = λ text W parts. parts ≡ code_parts (length W.states);
  best = λ W parts. ⊤;
  choice = λ W parts. ⊤;
  none = λ W. ⊥;
  promises = λ W codes N. ⊤;
}
row_of Assign = record {
  refuses = λ text W. BadParts (length W.states) text;
  asks = λ text W. AreGivenParts (length W.states) text;
  best = λ W parts. ⊤;
  choice = λ W parts. ⊤;
  none = λ W. ⊥;
  promises = λ W codes N. ⊤;
}
row_of Parallel = record {
  refuses = λ text W refusal. ⊥;
  asks = λ text. IsParallel;
  best = IsBestParallel;
  choice = IsParallelChoice;
  none = HasNoneInParallel;
  promises = λ W codes N. ⊤;
}
row_of Serial = record {
  refuses = λ text W refusal. ⊥;
  asks = λ text. IsSerial;
  best = IsBestSerial;
  choice = IsSerialChoice;
  none = HasNoneNontrivial;
  promises = λ W codes N. ⊤;
}
row_of Cascade = record {
  refuses = λ text W refusal. ⊥;
  asks = λ text. IsCascade;
  best = IsBestCascade;
  choice = IsCascadeChoice;
  none = HasNoneNontrivial;
  promises = λ W codes N. ⊤;
}
row_of Feedback = record {
  refuses = λ text W refusal. ⊥;
  asks = λ text. IsFeedback;
  best = IsBestFeedback;
  choice = IsFeedbackChoice;
  none = RightsAreTrivial;
  promises = λ W codes N. ⊤;
}
row_of Least = record {
  refuses = λ text. HasOtherCount;
  asks = λ text W. IsLeastSplit;
  best = λ W parts. ⊤;
  choice = GiveLeastCode;
  none = λ W. ⊥;
  promises = IsLeastNetwork;
}
