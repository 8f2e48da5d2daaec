-- What a task makes of a machine is reported as the frame asks.
use Rattle.std.proofs.Common.{◌≡◌, ◌≢◌, ◌==◌, ℕ, List, [], ◌∷◌, Result, Ok, Err, IfOk, MatchResult, inl, inr, refl, sym, ap, ◌∙◌, subst, arith}
use Rattle.std.specs.declared.alloc.AllocError.{AllocError}
use Rattle.std.proofs.lemmas.List.Splits.{length-slice_split}
use Rattle.answers.specs.declared.numbers.Answer.{Answer}
use Rattle.answers.specs.declared.numbers.Answer.TheVariants as answers
use Rattle.answers.specs.declared.refusals.Refusal.{Refusal}
use Rattle.answers.specs.declared.refusals.Refusal.TheVariants.{NoMemory}
use Rattle.answers.specs.declared.reports.Report.{Report}
use Rattle.answers.specs.declared.reports.Report.TheVariants.{Whole}
use Rattle.answers.specs.declared.reports.Report.TheVariants as reports
use Rattle.answers.specs.Cause.{CallsForNone, Cause, FirstOf}
use Rattle.answers.specs.Outcome.{IsJudged, IsReported, IsStop}
use Rattle.answers.specs.Laws.Causes.{IsOf, none_first}
use Rattle.answers.specs.Refusal.{answer_of}
use Rattle.blif_out.specs.declared.networks.CommentedNetwork.{CommentedNetwork}
use Rattle.blif_out.specs.declared.networks.HeadedNetwork.{HeadedNetwork}
use Rattle.blif_out.specs.Comments.{AreComments}
use Rattle.blif_out.specs.Head.{header_text}
use Rattle.blif_out.specs.NetworkText.{CanBeHeaded, CanBeText, CanBeWritten, IsHeadedText, IsNetworkText}
use Rattle.blif_out.proofs.NetworkTexts.{header_is_comments, text_has_head}
use Rattle.net_core.specs.declared.Network.{Network}
use Rattle.operands.specs.Causes.{Never}
use Rattle.hsdec_core.specs.Clocks.{TakesClock, design_of}
use Rattle.hsdec_core.specs.Inner.HeadedReport.{IsReportOf, NamesSignal}
use Rattle.hsdec_core.specs.Inner.JobOutcome.{IsPlain}
use Rattle.hsdec_core.proofs.Clocks.{IsLinked, design_lawful, takes_clock_is_of}
use Rattle.job_words.specs.declared.jobs.Job.{Job}
use Rattle.job_words.specs.Job.{HasFewSlashes, HasGivenNames}
use Rattle.kiss_file.specs.declared.file.KissFile.{KissFile}
use Rattle.split_texts.specs.GivenParts.{HasFewParts}

-- what is reported for one task of a machine, where the task is that one and the machine that of the file
pub reported_as : {T : Type 0} (cause : T → KissFile → Cause) (IsWhole IsEvidence : T → KissFile → List ℕ → Type 0) (task done : T) (F M : KissFile) (result : Result Report Refusal) → task ≡ done → M ≡ F
    → IsReported (cause done M) (IsWhole done M) (IsEvidence done M) result → IsReported (cause task F) (IsWhole task F) (IsEvidence task F) result
reported_as {T} cause IsWhole IsEvidence task done F M result is same reported =
    subst (λ (t : T). IsReported (cause t F) (IsWhole t F) (IsEvidence t F) result) (sym is)
    (subst (λ (G : KissFile). IsReported (cause done G) (IsWhole done G) (IsEvidence done G) result) same reported)

-- a text that nothing but want of memory stands against
pub whole_reported : {V : Type 0} (items : V → List ℕ) (P Q : List ℕ → Type 0) (text : Result V AllocError) (result : Result Report Refusal) → MatchResult text (λ v. result ≡ Ok (Whole (items v))) (λ _. result ≡ Err NoMemory) → IfOk text (λ v. P (items v)) → IsReported Never P Q result
whole_reported items P Q (Ok v) result is right = subst (IsReported Never P Q) (sym is) (λ refusal h. h, right)
whole_reported items P Q (Err wanting) result is right = subst (IsReported Never P Q) (sym is) (inl refl, λ e. cc)

-- a text or its refusal
pub judged_reported : {V : Type 0} (items : V → List ℕ) (cause : Cause) (P Q : List ℕ → Type 0) (text : Result V Refusal) (result : Result Report Refusal) → MatchResult text (λ v. result ≡ Ok (Whole (items v))) (λ refusal. result ≡ Err refusal)
    → ((refusal : Refusal) → cause refusal → answer_of refusal ≢ answers.More) → IsJudged cause (λ v. P (items v)) text → IsReported cause P Q result
judged_reported items cause P Q (Ok v) result is few judged = subst (IsReported cause P Q) (sym is) judged
judged_reported items cause P Q (Err refusal) result is few (inl wanting) =
    subst (IsReported cause P Q) (sym is) (inl wanting, λ e. let f : answers.NoMemory ≡ answers.More = sym (ap answer_of wanting) ∙ e in cc)
judged_reported items cause P Q (Err refusal) result is few (inr h) = subst (IsReported cause P Q) (sym is) (inr h, few refusal h)

-- the first half of what is judged
pub judged_first : {V : Type 0} (cause : Cause) (P Q : V → Type 0) (result : Result V Refusal) → IsJudged cause (λ v. P v × Q v) result → IfOk result P
judged_first cause P Q (Ok v) (none, both) = both.0
judged_first cause P Q (Err refusal) stop = tt

-- a refusal of another answer, or one that is plain, is no evidence
pub few_of : (answer : Answer) (cause : Cause) → answer ≢ answers.More → IsOf answer cause → (refusal : Refusal) → cause refusal → answer_of refusal ≢ answers.More
few_of answer cause other is_of refusal h e = other (sym (is_of refusal h) ∙ e)

pub plain_few : (answer : Answer) → IsPlain answer → answer ≢ answers.More
plain_few answer plain e = subst IsPlain e plain

-- ---- networks
-- after the causes of its family a network is refused for its clock; P is the text that is asked for
module _ (job : Job) (named : HasGivenNames job) (cause : Cause) (HasLatches : KissFile → ℕ → Type 0) (F : KissFile) (P Q : List ℕ → Type 0) where
  abbrev pub causes : Cause
  causes = FirstOf (cause ∷ TakesClock job HasLatches F ∷ [])

  -- a network that calls for no refusal of its family
  module _ (N : Network) (link : IsLinked job HasLatches F N) (none : CallsForNone cause) where
    drawn_here : (made : CommentedNetwork) → made.network ≡ N → CallsForNone (NamesSignal job.clock N) → CanBeText made → ((text : List ℕ) → IsNetworkText (design_of job) made.comments made.network text → P text)
        → IsReported causes P Q (Ok (reports.Network (design_of job) made))
    drawn_here made same unnamed ready has_text = (
      none_first (cause ∷ TakesClock job HasLatches F ∷ []) (none, (link.none unnamed, tt)),
      (ready, design_lawful job made.network named (subst (λ (M : Network). CallsForNone (NamesSignal job.clock M)) (sym same) unnamed), has_text),
    )

    refused_here : (refusal : Refusal) → IsStop (NamesSignal job.clock N) refusal → IsReported causes P Q (Err refusal)
    refused_here refusal (inl wanting) = (inl wanting, λ e. let f : answers.NoMemory ≡ answers.More = sym (ap answer_of wanting) ∙ e in cc)
    refused_here refusal (inr h) =
        let call : TakesClock job HasLatches F refusal = link.taken refusal h in
        (inr (inr (none, inl call)), few_of answers.ClockIsSignal (TakesClock job HasLatches F) (λ e. cc) (takes_clock_is_of job HasLatches F) refusal call)

  stopped : (refusal : Refusal) → ((refusal : Refusal) → cause refusal → answer_of refusal ≢ answers.More) → IsStop cause refusal → IsReported causes P Q (Err refusal)
  stopped refusal few (inl wanting) = (inl wanting, λ e. let f : answers.NoMemory ≡ answers.More = sym (ap answer_of wanting) ∙ e in cc)
  stopped refusal few (inr h) = (inr (inl h), few refusal h)

  -- a network with its comments, or its refusal
  pub drawn_reported : (IsRight : CommentedNetwork → Type 0) (made : Result CommentedNetwork Refusal) (result : Result Report Refusal)
      → MatchResult made (λ network. IsJudged (NamesSignal job.clock network.network) (λ report. report ≡ reports.Network (design_of job) network) result) (λ refusal. result ≡ Err refusal)
      → ((refusal : Refusal) → cause refusal → answer_of refusal ≢ answers.More) → ((network : CommentedNetwork) → IsRight network → IsLinked job HasLatches F network.network)
      → ((network : CommentedNetwork) → IsRight network → (text : List ℕ) → IsNetworkText (design_of job) network.comments network.network text → P text)
      → IsJudged cause (λ network. CanBeText network × IsRight network) made → IsReported causes P Q result
  drawn_reported IsRight (Ok network) (Ok report) (unnamed, is) few link has_text (none, (ready, right)) =
      subst (λ (r : Report). IsReported causes P Q (Ok r)) (sym is) (drawn_here network.network (link network right) none network refl unnamed ready (has_text network right))
  drawn_reported IsRight (Ok network) (Err refusal) stop few link has_text (none, (ready, right)) = refused_here network.network (link network right) none refusal stop
  drawn_reported IsRight (Err refusal) result is few link has_text stop = subst (IsReported causes P Q) (sym is) (stopped refusal few stop)

  -- a network with its header, or its refusal
  pub headed_reported : (IsRight : HeadedNetwork → Type 0) (made : Result HeadedNetwork Refusal) (result : Result Report Refusal)
      → MatchResult made (λ headed. IsJudged (NamesSignal job.clock headed.network) (IsReportOf (design_of job) headed) result) (λ refusal. result ≡ Err refusal)
      → ((refusal : Refusal) → cause refusal → answer_of refusal ≢ answers.More) → ((headed : HeadedNetwork) → IsRight headed → IsLinked job HasLatches F headed.network)
      → ((headed : HeadedNetwork) → IsRight headed → (text : List ℕ) → IsHeadedText (design_of job) headed.header headed.network text → P text)
      → IsJudged cause (λ headed. CanBeHeaded headed × IsRight headed) made → IsReported causes P Q result
  headed_reported IsRight (Ok headed) (Ok report) (unnamed, (made, is, network, comments)) few link has_text (none, (ready, right)) =
      subst (λ (r : Report). IsReported causes P Q (Ok r)) (sym is)
      (drawn_here headed.network (link headed right) none made network unnamed
      (record { comments = subst AreComments (sym comments) (header_is_comments headed.header ready.header); network = subst CanBeWritten (sym network) ready.network })
      (λ text told.
      has_text headed right text (text_has_head (design_of job) headed.header headed.network text
      (subst (λ (N : Network). IsNetworkText (design_of job) (header_text headed.header) N text) network
      (subst (λ (bytes : List ℕ). IsNetworkText (design_of job) bytes made.network text) comments told)))))
  headed_reported IsRight (Ok headed) (Err refusal) stop few link has_text (none, (ready, right)) = refused_here headed.network (link headed right) none refusal stop
  headed_reported IsRight (Err refusal) result is few link has_text stop = subst (IsReported causes P Q) (sym is) (stopped refusal few stop)

-- few slashes are between few parts
pub parts_few : (text lent : List ℕ) → lent ≡ text → HasFewSlashes text → HasFewParts lent
parts_few text lent same few = subst HasFewParts (sym same) (let e = length-slice_split (λ byte. byte == 47) text in omega (arith, e, few))
