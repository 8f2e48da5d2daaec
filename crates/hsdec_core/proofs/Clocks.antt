-- Which clocks are refused for a network that is made for a job: those that are names of its signals.
use Rattle.std.proofs.Common.{◌≡◌, ◌≢◌, ◌↔◌, ℕ, ◌+◌, ◌*◌, ◌≤◌, Bool, Contains, List, [], ◌∷◌, ◌++◌, Option, None, Some, IfSome, inl, inr, codes, length, map, unwrap_or, refl, sym, ap, ◌∙◌, subst, arith}
use Rattle.std.proofs.lemmas.List.{append_assoc, length-map}
use Rattle.std.proofs.lemmas.List.Elements.{Contains-append_cases, Contains-append_left, Contains-append_right}
use Rattle.answers.specs.declared.numbers.Answer.TheVariants as answers
use Rattle.answers.specs.declared.refusals.Refusal.{Refusal}
use Rattle.answers.specs.declared.refusals.Refusal.TheVariants.{ClockIsSignal}
use Rattle.answers.specs.Cause.{CallsForNone}
use Rattle.answers.specs.Laws.Causes.{IsOf, Within}
use Rattle.answers.specs.Refusal.{answer_of}
use Rattle.blif_out.specs.declared.networks.CommentedNetwork.{CommentedNetwork}
use Rattle.blif_out.specs.declared.networks.HeadedNetwork.{HeadedNetwork}
use Rattle.blif_out.specs.Design.{IsClockOf, IsDesignOf, driven_signals, signals_of}
use Rattle.blif_out.specs.Writable.{IsSignalName}
use Rattle.blif_out.specs.Laws.Designs.{plain_design_is_lawful}
use Rattle.cover_split.proofs.Outcomes.{same_blocks}
use Rattle.cover_split.specs.Parts.{IsLongest}
use Rattle.cover_split.specs.Refusal.{SpellsBlocks}
use Rattle.cover_texts.specs.CoverText.{IsCoverNetwork, IsNetworkOfPairs}
use Rattle.decomposition.specs.Decomposition.{IsDecomposed}
use Rattle.gate_rows.specs.Names.{HasNames}
use Rattle.decomposition.specs.OwnPairs.{OwnPairs}
use Rattle.hsdec_core.specs.Clocks.{HasCoverLatches, HasRegisterLatches, HasSplitLatches, TakesClock, design_of}
use Rattle.hsdec_core.specs.Inner.HeadedReport.{NamesSignal}
use Rattle.hsdec_core.proofs.Registers.{latches_counted, register_drives, same_outputs}
use Rattle.job_words.specs.declared.jobs.Job.{Job}
use Rattle.job_words.specs.Job.{HasGivenNames, IsClockName, IsModelName}
use Rattle.kiss_file.specs.declared.file.KissFile.{KissFile}
use Rattle.kiss_file.specs.LawfulFile.{IsLawful}
use Rattle.net_core.specs.declared.Network.{Network}
use Rattle.net_core.specs.declared.SignalNames.{SignalNames}
use Rattle.net_core.specs.SoundNetwork.{driven_by}
use Rattle.realise.specs.Names.{AreNames, all_names, next_letter, own_name}
use Rattle.shift_real.specs.DefiniteMachine.{IsOrder}
use Rattle.shift_real.specs.Laws.StartContent.{order_once}
use Rattle.shift_texts.specs.ShiftText.{IsShiftNetwork}
use Rattle.split_texts.specs.Laws.Codes.{length_of_codes, length_once}
use Rattle.split_texts.specs.Laws.Kinds.{parts_once}
use Rattle.split_texts.specs.Laws.Names.{names_once}
use Rattle.split_texts.specs.Splits.{IsSplitOf}
use Rattle.split_texts.specs.SplitText.{IsOfKind}
use Rattle.state_codes.specs.declared.split.Kind.{Kind}
use Rattle.state_codes.specs.declared.split.Part.{Part}
use Rattle.state_codes.specs.Code.{IsLength, need}
use Rattle.state_reduce.specs.Laws.Works.{one_work}
use Rattle.state_reduce.specs.Work.{IsWorkOf}

-- ---- the answer
pub takes_clock_is_of : (job : Job) (HasLatches : KissFile → ℕ → Type 0) (F : KissFile) → IsOf answers.ClockIsSignal (TakesClock job HasLatches F)
takes_clock_is_of job HasLatches F refusal (clock, is, named, taken) = ap answer_of is

-- ---- the design
driver_is_signal : (N : Network) (name : List ℕ) → Contains (driven_signals N) name → Contains (signals_of N) name
driver_is_signal N name driven =
    let inputs : List (List ℕ) = map (λ latch. latch.input) N.latches in
    Contains-append_right N.inputs (N.outputs ++ (inputs ++ driven_signals N)) name
    (Contains-append_right N.outputs (inputs ++ driven_signals N) name (Contains-append_right inputs (driven_signals N) name driven))

name_of_signal : (name : List ℕ) → IsModelName name → IsSignalName name
name_of_signal name given = record { field = given.field; no_backslash = given.no_backslash }

model_lawful : (N : Network) (model : Option (List ℕ)) → IfSome model IsModelName → IsSignalName (unwrap_or model (codes "hsdec"))
model_lawful N None given = (plain_design_is_lawful N).model
model_lawful N (Some name) given = name_of_signal name given

clock_lawful : (N : Network) (clock : Option (List ℕ)) → IfSome clock IsClockName → CallsForNone (NamesSignal clock N) → IfSome clock (IsClockOf N)
clock_lawful N None given unnamed = tt
clock_lawful N (Some name) given unnamed = record {
  signal = name_of_signal name given.given;
  controls = given.no_nil;
  undriven = λ driven. unnamed (ClockIsSignal name) (name, refl, refl, driver_is_signal N name driven);
}

-- a job whose clock is no signal of a network asks for a design of the network
pub design_lawful : (job : Job) (N : Network) → HasGivenNames job → CallsForNone (NamesSignal job.clock N) → IsDesignOf N (design_of job)
design_lawful job N named unnamed = record { model = model_lawful N job.model named.model; clock = clock_lawful N job.clock named.clock unnamed }

-- ---- signals
-- lists of which two come again
fewer : (a b c d e : List (List ℕ)) (x : List ℕ) → (Contains e x → Contains (c ++ b) x) → Contains (a ++ (b ++ (c ++ (d ++ e)))) x → Contains (a ++ (b ++ (c ++ d))) x
fewer a b c d e x again h =
    elim (Contains-append_cases a (b ++ (c ++ (d ++ e))) x h) [
      | inl here ↦ Contains-append_left a (b ++ (c ++ d)) x here
      | inr later ↦ Contains-append_right a (b ++ (c ++ d)) x (of_b later)
    ]
  where
    in_c : Contains c x → Contains (b ++ (c ++ d)) x
    in_c here = Contains-append_right b (c ++ d) x (Contains-append_left c d x here)

    of_e : Contains e x → Contains (b ++ (c ++ d)) x
    of_e last =
        elim (Contains-append_cases c b x (again last)) [
          | inl here ↦ in_c here
          | inr here ↦ Contains-append_left b (c ++ d) x here
        ]

    of_d : Contains (d ++ e) x → Contains (b ++ (c ++ d)) x
    of_d later =
        elim (Contains-append_cases d e x later) [
          | inl here ↦ Contains-append_right b (c ++ d) x (Contains-append_right c d x here)
          | inr last ↦ of_e last
        ]

    of_c : Contains (c ++ (d ++ e)) x → Contains (b ++ (c ++ d)) x
    of_c later =
        elim (Contains-append_cases c (d ++ e) x later) [
          | inl here ↦ in_c here
          | inr last ↦ of_d last
        ]

    of_b : Contains (b ++ (c ++ (d ++ e))) x → Contains (b ++ (c ++ d)) x
    of_b later =
        elim (Contains-append_cases b (c ++ (d ++ e)) x later) [
          | inl here ↦ Contains-append_left b (c ++ d) x here
          | inr last ↦ of_c last
        ]

-- a list at the end more
longer : (a b c d e : List (List ℕ)) (x : List ℕ) → Contains (a ++ (b ++ (c ++ d))) x → Contains (a ++ (b ++ (c ++ (d ++ e)))) x
longer a b c d e x h =
    elim (Contains-append_cases a (b ++ (c ++ d)) x h) [
      | inl here ↦ Contains-append_left a (b ++ (c ++ (d ++ e))) x here
      | inr later ↦ Contains-append_right a (b ++ (c ++ (d ++ e))) x (of_b later)
    ]
  where
    of_c : Contains (c ++ d) x → Contains (c ++ (d ++ e)) x
    of_c later =
        elim (Contains-append_cases c d x later) [
          | inl here ↦ Contains-append_left c (d ++ e) x here
          | inr here ↦ Contains-append_right c (d ++ e) x (Contains-append_left d e x here)
        ]

    of_b : Contains (b ++ (c ++ d)) x → Contains (b ++ (c ++ (d ++ e))) x
    of_b later =
        elim (Contains-append_cases b (c ++ d) x later) [
          | inl here ↦ Contains-append_left b (c ++ (d ++ e)) x here
          | inr last ↦ Contains-append_right b (c ++ (d ++ e)) x (of_c last)
        ]

same_four : (a b c d e f g h gates : List (List ℕ)) → a ≡ b → c ≡ d → e ≡ f → g ≡ h → a ++ (c ++ (e ++ (g ++ gates))) ≡ b ++ (d ++ (f ++ (h ++ gates)))
same_four a b c d e f g h gates p q r s = cc

-- gates drive nothing but latch inputs and outputs
abbrev DriveNames : Network → SignalNames → Type 0
DriveNames N names = (name : List ℕ) → Contains (driven_by N.gates) name → Contains (names.latch_inputs ++ names.outputs) name

module _ (N : Network) (names : SignalNames) (named : HasNames N names) (drive : DriveNames N names) where
  signals_are : signals_of N ≡ names.inputs ++ (names.outputs ++ (names.latch_inputs ++ (names.latch_outputs ++ driven_by N.gates)))
  signals_are =
      same_four N.inputs names.inputs N.outputs names.outputs (map (λ latch. latch.input) N.latches) names.latch_inputs (map (λ latch. latch.output) N.latches) names.latch_outputs (driven_by N.gates)
      named.inputs named.outputs named.latch_inputs named.latch_outputs

  names_are : all_names names ≡ names.inputs ++ (names.outputs ++ (names.latch_inputs ++ names.latch_outputs))
  names_are =
      append_assoc (names.inputs ++ names.outputs) names.latch_inputs names.latch_outputs
      ∙ append_assoc names.inputs names.outputs (names.latch_inputs ++ names.latch_outputs)

  -- the names of the signals are the names that the network has
  signal_is_name : (name : List ℕ) → Contains (signals_of N) name → Contains (all_names names) name
  signal_is_name name signal =
      subst (λ (list : List (List ℕ)). Contains list name) (sym names_are)
      (fewer names.inputs names.outputs names.latch_inputs names.latch_outputs (driven_by N.gates) name (drive name)
      (subst (λ (list : List (List ℕ)). Contains list name) signals_are signal))

  name_is_signal : (name : List ℕ) → Contains (all_names names) name → Contains (signals_of N) name
  name_is_signal name among =
      subst (λ (list : List (List ℕ)). Contains list name) (sym signals_are)
      (longer names.inputs names.outputs names.latch_inputs names.latch_outputs (driven_by N.gates) name
      (subst (λ (list : List (List ℕ)). Contains list name) names_are among))

-- ---- the refusal, by the file and by the network
-- a clock that names a signal of the network calls for the refusal of the job, and otherwise nothing does
pub record IsLinked (job : Job) (HasLatches : KissFile → ℕ → Type 0) (F : KissFile) (N : Network) : Type 0 where
  pub taken : Within (NamesSignal job.clock N) (TakesClock job HasLatches F)
  pub none : CallsForNone (NamesSignal job.clock N) → CallsForNone (TakesClock job HasLatches F)

linked : (job : Job) (HasLatches : KissFile → ℕ → Type 0) (F : KissFile) (N : Network) (latches : ℕ) (names : SignalNames) → HasNames N names → DriveNames N names → AreNames F latches names
    → HasLatches F latches → ((other : ℕ) → HasLatches F other → other ≡ latches) → IsLinked job HasLatches F N
linked job HasLatches F N latches names named drive own has once = record {
  taken = λ refusal call.
      let (clock, is, asked, signal) = call in
      (clock, is, asked, (latches, has, (names, own, signal_is_name N names named drive clock signal)));
  none = λ unnamed refusal call.
      let (clock, is, asked, (other, also, (more, more_own, among))) = call in
      let same : more ≡ names = names_once F latches more names (subst (λ (n : ℕ). AreNames F n more) (once other also) more_own) own in
      unnamed refusal (clock, is, asked, name_is_signal N names named drive clock (subst (λ (list : SignalNames). Contains (all_names list) clock) same among));
}

-- gates of a split drive the latch inputs and the outputs
pairs_drive : (N : Network) (names : SignalNames) → HasNames N names → driven_by N.gates ≡ map (λ latch. latch.input) N.latches ++ N.outputs → DriveNames N names
pairs_drive N names named gates name driven =
    let same : driven_by N.gates ≡ names.latch_inputs ++ names.outputs =
    gates ∙ (ap (λ (list : List (List ℕ)). list ++ N.outputs) named.latch_inputs ∙ ap (λ (list : List (List ℕ)). names.latch_inputs ++ list) named.outputs) in
    subst (λ (list : List (List ℕ)). Contains list name) same driven

-- ---- splits
split_once : (kind : Kind) (text : List ℕ) (reduce : Bool) (F W : KissFile) (parts : List Part) (bits : ℕ) → IsWorkOf reduce F W → IsSplitOf kind text W parts → IsLength parts bits
    → (other : ℕ) → HasSplitLatches kind text reduce F other → other ≡ bits
split_once kind text reduce F W parts bits work split size other (V, also, (others, twin, more)) =
    let same : V ≡ W = one_work reduce F V W also work in
    let here : IsSplitOf kind text W others = subst (λ (machine : KissFile). IsSplitOf kind text machine others) same twin in
    let same_parts : others ≡ parts = parts_once kind text W others parts here.made split.made in
    length_once parts other bits (subst (λ (list : List Part). IsLength list other) same_parts more) size

decomposed_linked : (job : Job) (kind : Kind) (text : List ℕ) (reduce : Bool) (F W : KissFile) (parts : List Part) (made : HeadedNetwork) → IsSplitOf kind text W parts → IsDecomposed reduce F W kind parts made
    → IsLinked job (HasSplitLatches kind text reduce) F made.network
unfolding IsDecomposed
decomposed_linked job kind text reduce F W parts made split (class, codes, work, is_kind, are_parts, is) =
    let size : IsLength parts codes.bits = subst (λ (list : List Part). IsLength list codes.bits) are_parts (length_of_codes (length W.states) made.header.parts codes is.codes_of_parts) in
    let real = is.gates.realised in
    let named : HasNames made.network is.gates.names = record { inputs = real.inputs; outputs = real.outputs; latch_inputs = real.latch_inputs; latch_outputs = real.latch_outputs } in
    linked job (HasSplitLatches kind text reduce) F made.network codes.bits is.gates.names named (pairs_drive made.network is.gates.names named is.pairs.gates) is.gates.own
    (W, (class, work), (parts, split, size)) (split_once kind text reduce F W parts codes.bits (class, work) split size)

pub split_linked : (job : Job) (kind : Kind) (text : List ℕ) (reduce : Bool) (F : KissFile) (made : HeadedNetwork) → IsOfKind kind text reduce F made → IsLinked job (HasSplitLatches kind text reduce) F made.network
split_linked job kind text reduce F made (W, parts, split, decomposed, kept) = decomposed_linked job kind text reduce F W parts made split decomposed

-- ---- shift registers
register_once : (reduce : Bool) (F W : KissFile) (k : ℕ) → IsWorkOf reduce F W → IsOrder W k → (other : ℕ) → HasRegisterLatches reduce F other → other ≡ k * W.inputs
register_once reduce F W k work order other (V, also, (j, more, size)) =
    let same : V ≡ W = one_work reduce F V W also work in
    let here : IsOrder W j = subst (λ (machine : KissFile). IsOrder machine j) same more in
    size ∙ (ap (λ (machine : KissFile). j * machine.inputs) same ∙ ap (λ (n : ℕ). n * W.inputs) (order_once W j k here order))

pub register_linked : (job : Job) (reduce : Bool) (F : KissFile) (made : CommentedNetwork) → IsLawful F → IsShiftNetwork reduce F made → IsLinked job (HasRegisterLatches reduce) F made.network
register_linked job reduce F made lawful (W, k, names, is) =
    let register = is.register.named in
    let named : HasNames made.network names = record { inputs = register.inputs; outputs = register.outputs; latch_inputs = register.latch_inputs; latch_outputs = register.latch_outputs } in
    linked job (HasRegisterLatches reduce) F made.network (k * W.inputs) names named (register_drives F W k names made.network lawful (same_outputs reduce F W is.work) is.own is.register) is.own
    (W, is.work, (k, is.order, refl)) (register_once reduce F W k is.work is.order)

-- ---- covers
longest_once : (blocks : List (List ℕ)) (one other : ℕ) → IsLongest blocks one → IsLongest blocks other → one ≡ other
longest_once blocks one other first second =
    let low : one ≤ other = subst (λ (n : ℕ). n ≤ other) first.reached (second.longest first.block) in
    let high : other ≤ one = subst (λ (n : ℕ). n ≤ one) second.reached (first.longest second.block) in
    omega (arith, low, high)

cover_once : (F : KissFile) (text : List ℕ) (blocks : List (List ℕ)) (longest : ℕ) → length F.states ≤ 256 → SpellsBlocks (length F.states) text blocks → IsLongest blocks longest
    → (other : ℕ) → HasCoverLatches text F other → other ≡ need (length blocks) + need longest
cover_once F text blocks longest few spelled is_longest other (others, more, also, more_is, size) =
    let same : others ≡ blocks = same_blocks (length F.states) text others blocks few also spelled in
    let here : IsLongest blocks more = subst (λ (list : List (List ℕ)). IsLongest list more) same more_is in
    size
    ∙ (ap (λ (list : List (List ℕ)). need (length list) + need more) same ∙ ap (λ (n : ℕ). need (length blocks) + need n) (longest_once blocks more longest here is_longest))

pub cover_linked : (job : Job) (F : KissFile) (text : List ℕ) (made : CommentedNetwork) → IsCoverNetwork F text made → IsLinked job (HasCoverLatches text) F made.network
unfolding IsCoverNetwork
cover_linked job F text made (blocks, E, parts, codes, notes, is) =
    let real = is.gates.realised in
    let named : HasNames made.network is.gates.names = record { inputs = real.inputs; outputs = real.outputs; latch_inputs = real.latch_inputs; latch_outputs = real.latch_outputs } in
    let counted : length made.network.latches ≡ codes.bits =
    sym (length-map made.network.latches (λ latch. latch.input)) ∙ (ap length real.latch_inputs ∙ latches_counted F codes.bits is.gates.names is.gates.own) in
    let size : codes.bits ≡ need (length blocks) + need is.latches.longest = sym counted ∙ is.latches.count in
    linked job (HasCoverLatches text) F made.network codes.bits is.gates.names named (pairs_drive made.network is.gates.names named is.pairs.gates) is.gates.own
    (blocks, is.latches.longest, is.spelled, is.latches.is_longest, size)
    (λ other also. cover_once F text blocks is.latches.longest is.cover.count.1 is.spelled is.latches.is_longest other also ∙ sym size)
