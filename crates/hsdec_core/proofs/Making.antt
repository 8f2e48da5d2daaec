-- What is made for a job, from what its operands say and what its command gives.
use Rattle.std.proofs.Common.{◌≡◌, ℕ, false, true, List, [], ◌∷◌, Option, Some, None, Result, Ok, Err, inl, inr, length, refl, sym, ap, ◌∙◌, subst}
use Rattle.answers.specs.declared.numbers.Answer.{Answer}
use Rattle.answers.specs.declared.numbers.Answer.TheVariants as answers
use Rattle.answers.specs.declared.refusals.Refusal.{Refusal}
use Rattle.answers.specs.declared.refusals.Refusal.TheVariants.{More}
use Rattle.answers.specs.declared.reports.Page.{Page}
use Rattle.answers.specs.declared.reports.Report.{Report}
use Rattle.answers.specs.declared.reports.Report.TheVariants.{Evidence, Whole}
use Rattle.answers.specs.declared.reports.Report.TheVariants as reports
use Rattle.answers.specs.Cause.{CallsForNone, Cause}
use Rattle.answers.specs.Outcome.{IsJudged, IsReported, IsStop}
use Rattle.answers.specs.Laws.Causes.{none_first}
use Rattle.answers.specs.Refusal.{answer_of}
use Rattle.blif_out.specs.declared.networks.CommentedNetwork.{CommentedNetwork}
use Rattle.blif_out.specs.NetworkText.{CanBeText}
use Rattle.blif_out.specs.Laws.Designs.{plain_design_is_lawful}
use Rattle.generated_texts.specs.SeedMachine.{OfGenerated}
use Rattle.generated_texts.specs.Trial.{IsTrialNetwork, LongCodeRow}
use Rattle.generated_texts.specs.Laws.Trials.{long_code_is_of}
use Rattle.generated_texts.proofs.TrialTexts.{trial_has_text}
use Rattle.hsdec_core.specs.declared.tasks.MachineTask.{MachineTask}
use Rattle.hsdec_core.specs.declared.tasks.Task.{Task}
use Rattle.hsdec_core.specs.declared.tasks.Task.TheVariants.{Gen, OnMachine, Sim, Trial, Walk}
use Rattle.operands.specs.Causes.{Never, NoMachineOf, NoNetworkOf, OfMachine, OfNetwork}
use Rattle.operands.specs.Fill.{fill_of}
use Rattle.operands.specs.Load.{IsStopAt}
use Rattle.hsdec_core.specs.Inner.JobOutcome.{IsNetworkOutcome, IsOutcomeOfJob, IsPlain, IsTextOutcome}
use Rattle.hsdec_core.specs.Inner.Pages.{IsPageOf, report_of}
use Rattle.hsdec_core.specs.Judgement.{BadSymbols, all_causes, first_cause, first_cause_of, own_cause, second_cause, second_cause_of}
use Rattle.operands.specs.Laws.Causes.{conflict_is_of, lengthy_is_of, machine_passes, network_passes, no_machine_is_of, no_network_is_of, not_long, open_is_of}
use Rattle.operands.specs.OpenedOperands.{HoldsMachine, HoldsNetwork}
use Rattle.operands.specs.OperandText.{IsShortText, IsText, Lengthy, MayBe}
use Rattle.hsdec_core.specs.Operands.{file_held, held_where, symbols_held, takes_file, takes_symbols}
use Rattle.hsdec_core.specs.Promise.{IsAsked, IsAskedOf, IsReport, IsShown, IsShownBy}
use Rattle.hsdec_core.specs.Refusals.{IsCalledFor}
use Rattle.hsdec_core.specs.Task.{task_of}
use Rattle.hsdec_core.proofs.Families.{own_plain}
use Rattle.kiss2.proofs.Exact.{one_file}
use Rattle.job_words.specs.declared.jobs.Job.{Job}
use Rattle.kiss_file.specs.declared.file.KissFile.{KissFile}
use Rattle.kiss2.specs.KissText.{kiss_text}
use Rattle.net_core.specs.declared.Network.{Network}
use Rattle.net_core.specs.Laws.Determined.{blif_one}
use Rattle.net_sim.specs.Run.{IsRun}
use Rattle.symbol_runs.specs.Causes.{BadSymbolRow, NoStart}
use Rattle.symbol_runs.specs.Laws.Causes.{bad_symbol_is_of, no_start_is_of}
use Rattle.symbol_runs.specs.Texts.{IsWalkText}

plain_of : (wanted : Answer) (refusal : Refusal) → IsPlain wanted → answer_of refusal ≡ wanted → IsPlain (answer_of refusal)
plain_of wanted refusal plain is = subst IsPlain (sym is) plain

plain_machine : (name : List ℕ) (job : Job) (bytes : List ℕ) (refusal : Refusal) → NoMachineOf name (fill_of job) bytes refusal → IsPlain (answer_of refusal)
plain_machine name job bytes refusal (inl h) = plain_of answers.TooLong refusal tt (lengthy_is_of name bytes refusal h)
plain_machine name job bytes refusal (inr (_, inl h)) = plain_of answers.KissRefused refusal tt (no_machine_is_of bytes refusal h)
plain_machine name job bytes refusal (inr (_, inr (_, inl h))) = plain_of answers.Conflict refusal tt (conflict_is_of bytes refusal h)
plain_machine name job bytes refusal (inr (_, inr (_, inr (_, inl h)))) = plain_of answers.Unspecified refusal tt (open_is_of bytes (fill_of job) refusal h)
plain_machine name job bytes refusal (inr (_, inr (_, inr (_, inr h)))) = absurd h.1

plain_network : (name bytes : List ℕ) (refusal : Refusal) → NoNetworkOf name bytes refusal → IsPlain (answer_of refusal)
plain_network name bytes refusal (inl h) = plain_of answers.TooLong refusal tt (lengthy_is_of name bytes refusal h)
plain_network name bytes refusal (inr (_, inl h)) = plain_of answers.NetRefused refusal tt (no_network_is_of bytes refusal h)
plain_network name bytes refusal (inr (_, inr h)) = absurd h.1

-- ---- a job by its task
module _ (job : Job) (holds : List ℕ → Option (List ℕ)) (Faulted : Type 0) where
  some_symbols : (symbols : List ℕ) × MayBe (symbols_held job holds) symbols
  some_symbols = of (symbols_held job holds)
    where
      of : (held : Option (List ℕ)) → (symbols : List ℕ) × MayBe held symbols
      of None = ([], tt)
      of (Some told) = (told, refl)

  -- what is called for before any symbol is loaded
  pub called_first : (bytes : List ℕ) (refusal : Refusal) → MayBe (file_held job holds) bytes → first_cause job bytes refusal → IsCalledFor job holds refusal
  called_first bytes refusal may h = let (symbols, may_symbols) = some_symbols in (bytes, symbols, may, may_symbols, inl h)

  module _ (task : Task) (is : task_of job.command ≡ task) where
    file_may : (bytes : List ℕ) → takes_file task ≡ true → MayBe (holds job.file) bytes → MayBe (file_held job holds) bytes
    file_may bytes takes may =
        subst (λ (t : Task). MayBe (held_where (takes_file t) (holds job.file)) bytes) (sym is)
        (subst (λ b. MayBe (held_where b (holds job.file)) bytes) (sym takes) may)

    symbols_may : (symbols : List ℕ) → takes_symbols task ≡ true → MayBe (holds job.second) symbols → MayBe (symbols_held job holds) symbols
    symbols_may symbols takes may =
        subst (λ (t : Task). MayBe (held_where (takes_symbols t) (holds job.second)) symbols) (sym is)
        (subst (λ b. MayBe (held_where b (holds job.second)) symbols) (sym takes) may)

    first_here : (bytes : List ℕ) (refusal : Refusal) → first_cause_of task job bytes refusal → first_cause job bytes refusal
    first_here bytes refusal h = subst (λ (t : Task). first_cause_of t job bytes refusal) (sym is) h

    first_none : (bytes : List ℕ) → CallsForNone (first_cause_of task job bytes) → CallsForNone (first_cause job bytes)
    first_none bytes none = subst (λ (t : Task). CallsForNone (first_cause_of t job bytes)) (sym is) none

    second_here : (bytes symbols : List ℕ) (refusal : Refusal) → second_cause_of task job bytes symbols refusal → second_cause job bytes symbols refusal
    second_here bytes symbols refusal h = subst (λ (t : Task). second_cause_of t job bytes symbols refusal) (sym is) h

    second_none : (bytes symbols : List ℕ) → CallsForNone (second_cause_of task job bytes symbols) → CallsForNone (second_cause job bytes symbols)
    second_none bytes symbols none = subst (λ (t : Task). CallsForNone (second_cause_of t job bytes symbols)) (sym is) none

    passes : (bytes symbols : List ℕ) → CallsForNone (first_cause_of task job bytes) → CallsForNone (second_cause_of task job bytes symbols) → CallsForNone (all_causes job bytes symbols)
    passes bytes symbols none later = none_first (first_cause job bytes ∷ second_cause job bytes symbols ∷ []) (first_none bytes none, (second_none bytes symbols later, tt))

    asked_here : (text : List ℕ) → IsAskedOf task job holds text → IsAsked job holds text
    asked_here text asked = subst (λ (t : Task). IsAskedOf t job holds text) (sym is) asked

    -- a load of FILE or NET that failed, or bytes that call for a refusal before all else
    pub unopened : (cause : List ℕ → Cause) (refusal : Refusal) → takes_file task ≡ true → ((bytes : List ℕ) → cause bytes refusal → first_cause_of task job bytes refusal) → ((bytes : List ℕ) → cause bytes refusal → IsPlain (answer_of refusal))
        → IsStopAt (holds job.file) Faulted job.file cause refusal → IsOutcomeOfJob job holds Faulted (Err refusal)
    unopened cause refusal takes first plain (inl wanting) = inl wanting
    unopened cause refusal takes first plain (inr (inl (unreadable, fault))) = inr (inl (fault, inl (ap takes_file is ∙ takes, unreadable)))
    unopened cause refusal takes first plain (inr (inr (bytes, may, h))) =
        inr (inr (called_first bytes refusal (file_may bytes takes may) (first_here bytes refusal (first bytes h)), plain bytes h))

  -- ---- a machine
  pub no_machine : (task : Task) (refusal : Refusal) → task_of job.command ≡ task → takes_file task ≡ true → ((bytes : List ℕ) → NoMachineOf job.file (fill_of job) bytes refusal → first_cause_of task job bytes refusal) → IsStopAt (holds job.file) Faulted job.file (NoMachineOf job.file (fill_of job)) refusal
      → IsOutcomeOfJob job holds Faulted (Err refusal)
  no_machine task refusal is takes first stop = unopened task is (NoMachineOf job.file (fill_of job)) refusal takes first (λ bytes. plain_machine job.file job bytes refusal) stop

  module _ (task : MachineTask) (F : KissFile) (is : task_of job.command ≡ OnMachine task) (bytes : List ℕ) (held : HoldsMachine (holds job.file) (fill_of job) bytes F) where
    machine_opens : CallsForNone (NoMachineOf job.file (fill_of job) bytes)
    machine_opens = machine_passes job.file bytes F (fill_of job) held.text.0 held.kiss held.accepted

    own_none : CallsForNone (own_cause task job F) → CallsForNone (OfMachine (fill_of job) bytes (own_cause task job))
    own_none none refusal (G, kiss, accepted, h) = none refusal (subst (λ (H : KissFile). own_cause task job H refusal) (one_file bytes G F kiss held.kiss) h)

    machine_none : CallsForNone (own_cause task job F) → CallsForNone (first_cause_of (OnMachine task) job bytes)
    machine_none none =
        none_first (NoMachineOf job.file (fill_of job) bytes ∷ OfMachine (fill_of job) bytes (own_cause task job) ∷ []) (machine_opens, (own_none none, tt))

    own_called : (refusal : Refusal) → own_cause task job F refusal → first_cause_of (OnMachine task) job bytes refusal
    own_called refusal h = inr (machine_opens, inl (F, held.kiss, held.accepted, h))

    may_file : MayBe (file_held job holds) bytes
    may_file = file_may (OnMachine task) is bytes refl held.text.1

    pub made_of_machine : (result : Result Report Refusal) → IsReported (own_cause task job F) (IsReport task job F) (IsShown task job F) result → IsOutcomeOfJob job holds Faulted result
    made_of_machine (Ok (Whole text)) (none, report) =
        let (symbols, may_symbols) = some_symbols in (
          asked_here (OnMachine task) is text (bytes, F, held, report),
          (bytes, symbols, may_file, may_symbols, passes (OnMachine task) is bytes symbols (machine_none none) (λ refusal h. h)),
        )
    made_of_machine (Ok (Evidence text limit)) (h, shown) =
        ((bytes, F, held, subst (λ (t : Task). IsShownBy t job F text) (sym is) shown), (bytes, may_file, first_here (OnMachine task) is bytes (More limit) (own_called (More limit) h)))
    made_of_machine (Ok (reports.Network design made)) (none, (ready, lawful, drawn)) =
        let (symbols, may_symbols) = some_symbols in (
          (ready, lawful, λ text told. asked_here (OnMachine task) is text (bytes, F, held, drawn text told)),
          (bytes, symbols, may_file, may_symbols, passes (OnMachine task) is bytes symbols (machine_none none) (λ refusal h. h)),
        )
    made_of_machine (Err refusal) (inl wanting, few) = inl wanting
    made_of_machine (Err refusal) (inr h, few) =
        inr (inr (called_first bytes refusal may_file (first_here (OnMachine task) is bytes refusal (own_called refusal h)), own_plain task job F refusal h few))

  -- ---- a network
  pub no_network : (refusal : Refusal) → task_of job.command ≡ Sim → IsStopAt (holds job.file) Faulted job.file (NoNetworkOf job.file) refusal → IsOutcomeOfJob job holds Faulted (Err refusal)
  no_network refusal is stop = unopened Sim is (NoNetworkOf job.file) refusal refl (λ bytes h. inl h) (λ bytes. plain_network job.file bytes refusal) stop

  module _ (N : Network) (is : task_of job.command ≡ Sim) (bytes : List ℕ) (held : HoldsNetwork (holds job.file) bytes N) where
    network_opens : CallsForNone (NoNetworkOf job.file bytes)
    network_opens = network_passes job.file bytes N held.0.0 held.1

    -- a network that has no values of its latches to begin with
    pub no_start : (refusal : Refusal) → IsStop (NoStart N job.start) refusal → IsOutcomeOfJob job holds Faulted (Err refusal)
    no_start refusal (inl wanting) = inl wanting
    no_start refusal (inr h) =
        inr (inr (
          called_first bytes refusal (file_may Sim is bytes refl held.0.1) (first_here Sim is bytes refusal (inr (network_opens, inl (N, held.1, h)))),
          plain_of answers.SymbolRefused refusal tt (no_start_is_of N job.start refusal h),
        ))

    start_none_here : CallsForNone (NoStart N job.start) → CallsForNone (OfNetwork bytes (λ M. NoStart M job.start))
    start_none_here none refusal (M, blif, h) = none refusal (subst (λ (K : Network). NoStart K job.start refusal) (blif_one bytes M N blif held.1) h)

    -- one that has a start
    pub network_first : CallsForNone (NoStart N job.start) → CallsForNone (first_cause_of Sim job bytes)
    network_first none = none_first (NoNetworkOf job.file bytes ∷ OfNetwork bytes (λ M. NoStart M job.start) ∷ []) (network_opens, (start_none_here none, tt))

  -- ---- symbols
  -- symbols that are short are those that were loaded
  symbols_causes : (name : List ℕ) (width : ℕ) (symbols : List ℕ) (refusal : Refusal) → IsShortText symbols → BadSymbolRow width symbols refusal → BadSymbols name width symbols refusal
  symbols_causes name width symbols refusal within h = inr (not_long name symbols within, inl h)

  symbols_pass : (name : List ℕ) (width : ℕ) (symbols : List ℕ) → IsShortText symbols → CallsForNone (BadSymbolRow width symbols) → CallsForNone (BadSymbols name width symbols)
  symbols_pass name width symbols within none = none_first (Lengthy name symbols ∷ BadSymbolRow width symbols ∷ []) (not_long name symbols within, (none, tt))

  module _ (task : Task) (is : task_of job.command ≡ task) (takes : takes_symbols task ≡ true) (bytes : List ℕ) (may : MayBe (file_held job holds) bytes) (none : CallsForNone (first_cause_of task job bytes)) where
    -- a load of SYMBOLS that failed
    pub unloaded : (refusal : Refusal) → ((symbols : List ℕ) → Lengthy job.second symbols refusal → second_cause_of task job bytes symbols refusal) → IsStopAt (holds job.second) Faulted job.second (Lengthy job.second) refusal → IsOutcomeOfJob job holds Faulted (Err refusal)
    unloaded refusal second (inl wanting) = inl wanting
    unloaded refusal second (inr (inl (unreadable, fault))) =
        inr (inl (fault, inr (ap takes_symbols is ∙ takes, unreadable, (bytes, may, first_none task is bytes none))))
    unloaded refusal second (inr (inr (symbols, may_symbols, long))) =
        inr (inr (
          (bytes, symbols, may, symbols_may task is symbols takes may_symbols, inr (first_none task is bytes none, inl (second_here task is bytes symbols refusal (second symbols long)))),
          plain_of answers.TooLong refusal tt (lengthy_is_of job.second symbols refusal long),
        ))

    -- what the symbols give
    pub made_of_symbols : (cause : Cause) (IsRight : List ℕ → Type 0) (symbols : List ℕ) (result : Result (List ℕ) Refusal) → IsText (holds job.second) symbols → ((refusal : Refusal) → cause refusal → second_cause_of task job bytes symbols refusal) → (CallsForNone cause → CallsForNone (second_cause_of task job bytes symbols))
        → ((text : List ℕ) → IsRight text → IsAskedOf task job holds text) → ((refusal : Refusal) → cause refusal → IsPlain (answer_of refusal)) → IsJudged cause IsRight result → IsTextOutcome job holds Faulted result
    made_of_symbols cause IsRight symbols (Ok text) is_text second later asked plain (none_here, right) =
        (asked_here task is text (asked text right), (bytes, symbols, may, symbols_may task is symbols takes is_text.1, passes task is bytes symbols none (later none_here)))
    made_of_symbols cause IsRight symbols (Err refusal) is_text second later asked plain (inl wanting) = inl wanting
    made_of_symbols cause IsRight symbols (Err refusal) is_text second later asked plain (inr h) =
        inr (inr ((bytes, symbols, may, symbols_may task is symbols takes is_text.1, inr (first_none task is bytes none, inl (second_here task is bytes symbols refusal (second refusal h)))), plain refusal h))

  -- ---- the machine of FILE, and symbols
  module _ (F : KissFile) (is : task_of job.command ≡ Walk) (bytes : List ℕ) (held : HoldsMachine (holds job.file) (fill_of job) bytes F) where
    walk_opens : CallsForNone (first_cause_of Walk job bytes)
    walk_opens = machine_passes job.file bytes F (fill_of job) held.text.0 held.kiss held.accepted

    walk_may : MayBe (file_held job holds) bytes
    walk_may = file_may Walk is bytes refl held.text.1

    of_walk : (symbols : List ℕ) (refusal : Refusal) → BadSymbols job.second F.inputs symbols refusal → second_cause_of Walk job bytes symbols refusal
    of_walk symbols refusal h = (F, held.kiss, held.accepted, h)

    walk_none : (symbols : List ℕ) → CallsForNone (BadSymbols job.second F.inputs symbols) → CallsForNone (second_cause_of Walk job bytes symbols)
    walk_none symbols none refusal (G, kiss, accepted, h) =
        none refusal (subst (λ (H : KissFile). BadSymbols job.second H.inputs symbols refusal) (one_file bytes G F kiss held.kiss) h)

    pub walk_unloaded : (refusal : Refusal) → IsStopAt (holds job.second) Faulted job.second (Lengthy job.second) refusal → IsOutcomeOfJob job holds Faulted (Err refusal)
    walk_unloaded refusal stop = unloaded Walk is refl bytes walk_may walk_opens refusal (λ symbols long. of_walk symbols refusal (inl long)) stop

    pub walk_made : (symbols : List ℕ) (result : Result (List ℕ) Refusal) → IsText (holds job.second) symbols → IsJudged (BadSymbolRow F.inputs symbols) (IsWalkText F symbols) result → IsTextOutcome job holds Faulted result
    walk_made symbols result is_text judged =
        made_of_symbols Walk is refl bytes walk_may walk_opens (BadSymbolRow F.inputs symbols) (IsWalkText F symbols) symbols result is_text
        (λ refusal h. of_walk symbols refusal (symbols_causes job.second F.inputs symbols refusal is_text.0 h))
        (λ none. walk_none symbols (symbols_pass job.second F.inputs symbols is_text.0 none))
        (λ text right. (bytes, F, symbols, held, is_text, right))
        (λ refusal h. plain_of answers.SymbolRefused refusal tt (bad_symbol_is_of F.inputs symbols refusal h)) judged

  -- ---- the network of NET, and symbols
  module _ (N : Network) (is : task_of job.command ≡ Sim) (bytes : List ℕ) (held : HoldsNetwork (holds job.file) bytes N) (none : CallsForNone (NoStart N job.start)) where
    sim_may : MayBe (file_held job holds) bytes
    sim_may = file_may Sim is bytes refl held.0.1

    of_sim : (symbols : List ℕ) (refusal : Refusal) → BadSymbols job.second (length N.inputs) symbols refusal → second_cause_of Sim job bytes symbols refusal
    of_sim symbols refusal h = (N, held.1, h)

    sim_none : (symbols : List ℕ) → CallsForNone (BadSymbols job.second (length N.inputs) symbols) → CallsForNone (second_cause_of Sim job bytes symbols)
    sim_none symbols none_here refusal (M, blif, h) =
        none_here refusal (subst (λ (K : Network). BadSymbols job.second (length K.inputs) symbols refusal) (blif_one bytes M N blif held.1) h)

    pub sim_unloaded : (refusal : Refusal) → IsStopAt (holds job.second) Faulted job.second (Lengthy job.second) refusal → IsOutcomeOfJob job holds Faulted (Err refusal)
    sim_unloaded refusal stop = unloaded Sim is refl bytes sim_may (network_first N is bytes held none) refusal (λ symbols long. of_sim symbols refusal (inl long)) stop

    pub sim_made : (symbols : List ℕ) (result : Result (List ℕ) Refusal) → IsText (holds job.second) symbols → IsJudged (BadSymbolRow (length N.inputs) symbols) (IsRun N job.start symbols) result → IsTextOutcome job holds Faulted result
    sim_made symbols result is_text judged =
        made_of_symbols Sim is refl bytes sim_may (network_first N is bytes held none) (BadSymbolRow (length N.inputs) symbols) (IsRun N job.start symbols) symbols result is_text
        (λ refusal h. of_sim symbols refusal (symbols_causes job.second (length N.inputs) symbols refusal is_text.0 h))
        (λ none_here. sim_none symbols (symbols_pass job.second (length N.inputs) symbols is_text.0 none_here))
        (λ text right. (bytes, N, symbols, held, is_text, right))
        (λ refusal h. plain_of answers.SymbolRefused refusal tt (bad_symbol_is_of (length N.inputs) symbols refusal h)) judged

  -- ---- numbers
  no_file : (task : Task) → task_of job.command ≡ task → takes_file task ≡ false → MayBe (file_held job holds) []
  no_file task is none =
      subst (λ (t : Task). MayBe (held_where (takes_file t) (holds job.file)) []) (sym is) (subst (λ b. MayBe (held_where b (holds job.file)) []) (sym none) refl)

  pub made_of_numbers : (task : Task) (cause : Cause) (IsRight : List ℕ → Type 0) (result : Result (List ℕ) Refusal) → task_of job.command ≡ task → takes_file task ≡ false → ((refusal : Refusal) → cause refusal → first_cause_of task job [] refusal) → (CallsForNone cause → CallsForNone (first_cause_of task job []))
      → ((symbols : List ℕ) → CallsForNone (second_cause_of task job [] symbols)) → ((text : List ℕ) → IsRight text → IsAskedOf task job holds text) → ((refusal : Refusal) → cause refusal → IsPlain (answer_of refusal)) → IsJudged cause IsRight result → IsTextOutcome job holds Faulted result
  made_of_numbers task cause IsRight (Ok text) is none_taken called none second asked plain (none_here, right) =
      let (symbols, may_symbols) = some_symbols in
      (asked_here task is text (asked text right), ([], symbols, no_file task is none_taken, may_symbols, passes task is [] symbols (none none_here) (second symbols)))
  made_of_numbers task cause IsRight (Err refusal) is none_taken called none second asked plain (inl wanting) = inl wanting
  made_of_numbers task cause IsRight (Err refusal) is none_taken called none second asked plain (inr h) =
      inr (inr (called_first [] refusal (no_file task is none_taken) (first_here task is [] refusal (called refusal h)), plain refusal h))

  pub made_of_gen : (text : List ℕ) → task_of job.command ≡ Gen → OfGenerated job.seed job.a job.b job.k (λ F. text ≡ kiss_text F) → IsTextOutcome job holds Faulted (Ok text)
  made_of_gen text is right =
      made_of_numbers Gen Never (λ t. OfGenerated job.seed job.a job.b job.k (λ F. t ≡ kiss_text F)) (Ok text) is refl (λ refusal h. h) (λ none. none) (λ symbols refusal h. h) (λ t asked. asked) (λ refusal h. absurd h) (λ refusal h. h, right)

  pub made_of_trial : (result : Result CommentedNetwork Refusal) → task_of job.command ≡ Trial
      → IsJudged (LongCodeRow job.seed job.a job.b job.k) (λ made. CanBeText made × OfGenerated job.seed job.a job.b job.k (λ F. IsTrialNetwork job.seed job.a job.b job.k F made)) result → IsNetworkOutcome job holds Faulted result
  made_of_trial (Ok made) is (none, (ready, (F, of_numbers, right))) =
      let (symbols, may_symbols) = some_symbols in (
        (ready, plain_design_is_lawful made.network, λ text told. asked_here Trial is text (F, of_numbers, trial_has_text job.seed job.a job.b job.k F made text ready right told)),
        ([], symbols, no_file Trial is refl, may_symbols, passes Trial is [] symbols none (λ refusal h. h)),
      )
  made_of_trial (Err refusal) is (inl wanting) = inl wanting
  made_of_trial (Err refusal) is (inr h) =
      inr (inr (called_first [] refusal (no_file Trial is refl) (first_here Trial is [] refusal h), plain_of answers.CodeTooLong refusal tt (long_code_is_of job.seed job.a job.b job.k refusal h)))

  -- what is put of a report is what the report is
  pub made_of_page : (report : Report) (page : Page) → IsOutcomeOfJob job holds Faulted (Ok report) → IsPageOf report page → IsOutcomeOfJob job holds Faulted (report_of (Ok page))
  made_of_page (Whole text) page made is = subst (λ (p : Page). IsOutcomeOfJob job holds Faulted (report_of (Ok p))) (sym is) made
  made_of_page (Evidence text limit) page made is = subst (λ (p : Page). IsOutcomeOfJob job holds Faulted (report_of (Ok p))) (sym is) made
  made_of_page (reports.Network design network) page (drawn, passed) (text, is, told) =
      subst (λ (p : Page). IsOutcomeOfJob job holds Faulted (report_of (Ok p))) (sym is) (drawn.2 text told, passed)
