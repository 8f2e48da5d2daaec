-- What follows from the definitions alone.
pub mod Chosen
use Rattle.std.specs.Prelude.{◌≡◌, List}
use Rattle.kiss_file.specs.declared.file.KissFile.{KissFile}
use Rattle.state_codes.specs.declared.split.Part.{Part}
use Rattle.feedback_split.specs.Choice.{IsFeedbackChoice}
use Rattle.feedback_split.specs.Kind.{IsFeedback}

-- at most one list of parts is chosen for a feedback split
abbrev pub FeedbackChoiceIsOne : Type 0
FeedbackChoiceIsOne =
    (F : KissFile) (one other : List Part) → IsFeedback F one → IsFeedback F other → IsFeedbackChoice F one → IsFeedbackChoice F other → one ≡ other
