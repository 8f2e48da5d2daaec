-- How the network of a job is written, and which clocks are refused for it.
use Rattle.std.specs.Prelude.{◌≡◌, ◌+◌, ◌*◌, ℕ, Bool, Contains, List, Some, codes, length, unwrap_or}
use Rattle.answers.specs.declared.refusals.Refusal.TheVariants.{ClockIsSignal}
use Rattle.answers.specs.Cause.{Cause}
use Rattle.blif_out.specs.declared.design.Design.{Design}
use Rattle.cover_split.specs.Parts.{IsLongest}
use Rattle.cover_split.specs.Refusal.{SpellsBlocks}
use Rattle.job_words.specs.declared.jobs.Job.{Job}
use Rattle.kiss_file.specs.declared.file.KissFile.{KissFile}
use Rattle.net_core.specs.declared.SignalNames.{SignalNames}
use Rattle.realise.specs.Names.{AreNames, all_names}
use Rattle.shift_real.specs.DefiniteMachine.{IsOrder}
use Rattle.split_texts.specs.Splits.{IsSplitOf}
use Rattle.state_codes.specs.declared.split.Kind.{Kind}
use Rattle.state_codes.specs.declared.split.Part.{Part}
use Rattle.state_codes.specs.Code.{IsLength, need}
use Rattle.state_reduce.specs.Work.{OnWork}

-- the model and the clock that a job names; a model without a name is `hsdec`
abbrev pub design_of : Job → Design
design_of job = record { model = unwrap_or job.model (codes "hsdec"); clock = job.clock }

-- ---- the number of latches of a network
-- a split has a latch for each bit of the codes of its parts
abbrev pub HasSplitLatches : Kind → List ℕ → Bool → KissFile → ℕ → Type 0
HasSplitLatches kind text reduce F latches =
    OnWork reduce F (λ W. (parts : List Part) × IsSplitOf kind text W parts × IsLength parts latches)

-- a shift register has a latch for each bit of the symbols that it keeps
abbrev pub HasRegisterLatches : Bool → KissFile → ℕ → Type 0
HasRegisterLatches reduce F latches = OnWork reduce F (λ W. (k : ℕ) × IsOrder W k × (latches ≡ k * W.inputs))

-- a cover has as many latches as distinguish its blocks, and as many as distinguish the states of its longest block
abbrev pub HasCoverLatches : List ℕ → KissFile → ℕ → Type 0
HasCoverLatches text F latches =
    (blocks : List (List ℕ)) × (longest : ℕ)
    × SpellsBlocks (length F.states) text blocks × IsLongest blocks longest × (latches ≡ need (length blocks) + need longest)

-- ---- the refusal
-- in a network of F with this number of latches, a signal has this name, given or own
abbrev pub IsNameOfSignal : KissFile → ℕ → List ℕ → Type 0
IsNameOfSignal F latches name = (names : SignalNames) × AreNames F latches names × Contains (all_names names) name

-- the clock that a job names is the name of a signal of its network
abbrev pub TakesClock : Job → (KissFile → ℕ → Type 0) → KissFile → Cause
TakesClock job HasLatches F refusal =
    (clock : List ℕ) × (refusal ≡ ClockIsSignal clock) × (job.clock ≡ Some clock)
    × ((latches : ℕ) × HasLatches F latches × IsNameOfSignal F latches clock)
