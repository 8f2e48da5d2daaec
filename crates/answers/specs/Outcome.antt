-- The outcome of a step of a command: what the step is to give, or a refusal that has its cause.
use Rattle.std.specs.Prelude.{◌≡◌, ◌≢◌, ◌⊎◌, ℕ, List, Result, Ok, Err}
use Rattle.answers.specs.declared.numbers.Answer.TheVariants as answers
use Rattle.answers.specs.declared.refusals.Refusal.{Refusal}
use Rattle.answers.specs.declared.refusals.Refusal.TheVariants.{More, NoMemory}
use Rattle.answers.specs.declared.reports.Report.{Report}
use Rattle.answers.specs.declared.reports.Report.TheVariants.{Evidence, Network, Whole}
use Rattle.answers.specs.Cause.{CallsForNone, Cause}
use Rattle.answers.specs.Refusal.{answer_of}
use Rattle.blif_out.specs.declared.design.Design.{Design}
use Rattle.blif_out.specs.declared.networks.CommentedNetwork.{CommentedNetwork}
use Rattle.blif_out.specs.Design.{IsDesignOf}
use Rattle.blif_out.specs.NetworkText.{CanBeText, IsNetworkText}

-- the refusal is called for, or memory ran out
abbrev pub IsStop : Cause → Refusal → Type 0
IsStop cause refusal = (refusal ≡ NoMemory) ⊎ cause refusal

-- a step gave what it is to give, and nothing called for a refusal; or it gave a refusal that was called for
abbrev pub IsJudged : {V : Type 0} → Cause → (V → Type 0) → Result V Refusal → Type 0
IsJudged cause IsRight (Ok value) = CallsForNone cause × IsRight value
IsJudged cause IsRight (Err refusal) = IsStop cause refusal

-- the network with its comments can be written in the design, and its text is what is asked for
abbrev pub IsDrawn : (List ℕ → Type 0) → Design → CommentedNetwork → Type 0
IsDrawn IsWhole design made =
    CanBeText made × IsDesignOf made.network design
    × ((text : List ℕ) → IsNetworkText design made.comments made.network text → IsWhole text)

-- the command gave its whole text, and nothing called for a refusal; or it gave evidence that there are more than
-- the limit, which was called for; or it gave a network whose text is such a whole text, and nothing called for a
-- refusal; or it gave another refusal that was called for
abbrev pub IsReported : Cause → (List ℕ → Type 0) → (List ℕ → Type 0) → Result Report Refusal → Type 0
IsReported cause IsWhole IsEvidence (Ok (Whole text)) = CallsForNone cause × IsWhole text
IsReported cause IsWhole IsEvidence (Ok (Evidence text limit)) = cause (More limit) × IsEvidence text
IsReported cause IsWhole IsEvidence (Ok (Network design made)) = CallsForNone cause × IsDrawn IsWhole design made
IsReported cause IsWhole IsEvidence (Err refusal) = IsStop cause refusal × (answer_of refusal ≢ answers.More)
