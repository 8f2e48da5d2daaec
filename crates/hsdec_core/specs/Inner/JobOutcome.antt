-- What is made in memory for a job or for refused words, before anything is put. The clauses of `run` follow from it.
use Rattle.std.specs.Prelude.{◌≡◌, ◌⊎◌, ⊤, ℕ, List, Option, Result, Ok, Err}
use Rattle.answers.specs.declared.numbers.Answer.{Answer}
use Rattle.answers.specs.declared.numbers.Answer.TheVariants as answers
use Rattle.answers.specs.declared.refusals.Refusal.{Refusal}
use Rattle.answers.specs.declared.refusals.Refusal.TheVariants.{More, NoMemory, Usage}
use Rattle.answers.specs.declared.reports.Page.{Page}
use Rattle.answers.specs.declared.reports.Report.{Report}
use Rattle.answers.specs.declared.reports.Report.TheVariants.{Evidence, Network, Whole}
use Rattle.answers.specs.Cause.{CallsForNone}
use Rattle.answers.specs.Outcome.{IsDrawn}
use Rattle.answers.specs.Refusal.{answer_of}
use Rattle.blif_out.specs.declared.networks.CommentedNetwork.{CommentedNetwork}
use Rattle.blif_out.specs.Design.{plain_design}
use Rattle.hsdec_core.specs.Inner.Pages.{report_of}
use Rattle.hsdec_core.specs.Judgement.{all_causes, first_cause}
use Rattle.operands.specs.OperandText.{MayBe}
use Rattle.hsdec_core.specs.Operands.{file_held, symbols_held}
use Rattle.hsdec_core.specs.Promise.{IsAsked, IsEvidence}
use Rattle.hsdec_core.specs.Refusals.{IsCalledFor, IsFailedLoad}
use Rattle.job_words.specs.declared.jobs.Job.{Job}

-- an answer that comes without a text and that what is loaded may call for
abbrev pub IsPlain : Answer → Type 0
IsPlain answers.Done = ⊥
IsPlain answers.More = ⊥
IsPlain answers.Usage = ⊥
IsPlain answers.ReadFault = ⊥
IsPlain answers.WriteFault = ⊥
IsPlain answers.NoMemory = ⊥
IsPlain _ = ⊤

-- a job is refused: memory ran out, a load failed, or what is loaded calls for the refusal, which is plain
abbrev pub IsUndone : Job → (List ℕ → Option (List ℕ)) → Type 0 → Refusal → Type 0
IsUndone job holds Faulted refusal =
    (refusal ≡ NoMemory) ⊎ (Faulted × IsFailedLoad job holds refusal) ⊎ (IsCalledFor job holds refusal × IsPlain (answer_of refusal))

-- nothing that is loaded calls for a refusal
abbrev pub MayCallForNone : Job → (List ℕ → Option (List ℕ)) → Type 0
MayCallForNone job holds =
    (bytes symbols : List ℕ) × MayBe (file_held job holds) bytes × MayBe (symbols_held job holds) symbols × CallsForNone (all_causes job bytes symbols)

-- what is made for a job; the shelf holds `holds`, and `Faulted` says that its count of faults rose
abbrev pub IsOutcomeOfJob : Job → (List ℕ → Option (List ℕ)) → Type 0 → Result Report Refusal → Type 0
IsOutcomeOfJob job holds Faulted (Ok (Whole text)) = IsAsked job holds text × MayCallForNone job holds
IsOutcomeOfJob job holds Faulted (Ok (Evidence text limit)) =
    IsEvidence job holds text × ((bytes : List ℕ) × MayBe (file_held job holds) bytes × first_cause job bytes (More limit))
IsOutcomeOfJob job holds Faulted (Ok (Network design made)) = IsDrawn (IsAsked job holds) design made × MayCallForNone job holds
IsOutcomeOfJob job holds Faulted (Err refusal) = IsUndone job holds Faulted refusal

-- a text is made for a job, or the job is refused
abbrev pub IsTextOutcome : Job → (List ℕ → Option (List ℕ)) → Type 0 → Result (List ℕ) Refusal → Type 0
IsTextOutcome job holds Faulted (Ok text) = IsOutcomeOfJob job holds Faulted (Ok (Whole text))
IsTextOutcome job holds Faulted (Err refusal) = IsOutcomeOfJob job holds Faulted (Err refusal)

-- a network with its comments is made for a job that names no clock, or the job is refused
abbrev pub IsNetworkOutcome : Job → (List ℕ → Option (List ℕ)) → Type 0 → Result CommentedNetwork Refusal → Type 0
IsNetworkOutcome job holds Faulted (Ok made) = IsOutcomeOfJob job holds Faulted (Ok (Network plain_design made))
IsNetworkOutcome job holds Faulted (Err refusal) = IsOutcomeOfJob job holds Faulted (Err refusal)

-- what is to be put for a job or for refused words
abbrev pub IsOutcomeOfWords : Result Job ℕ → (List ℕ → Option (List ℕ)) → Type 0 → Result Page Refusal → Type 0
IsOutcomeOfWords (Ok job) holds Faulted made = IsOutcomeOfJob job holds Faulted (report_of made)
IsOutcomeOfWords (Err word) holds Faulted (Ok page) = ⊥
IsOutcomeOfWords (Err word) holds Faulted (Err refusal) = (refusal ≡ NoMemory) ⊎ (refusal ≡ Usage word)
