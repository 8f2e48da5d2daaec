-- The gates of a decomposition's network read state bits by the rule.
use Rattle.std.proofs.Common.{◌≡◌, ℕ, ◌+◌, ◌<◌, ◌≤◌, Bool, List, get_or, length, sym, ◌∙◌, subst}
use Rattle.std.proofs.lemmas.List.Elements.{Contains-get_or}
use Rattle.std.proofs.lemmas.Option.{same_Some}
use Rattle.state_reduce.specs.declared.work.WorkMachine.{WorkMachine}
use Rattle.decomposition.specs.Decomposition.{HasGates}
use Rattle.state_reduce.specs.Work.{IsWork}
use Rattle.decomposition.proofs.Reading.{listed_read, read_listed}
use Rattle.decomposition.proofs.Whole.{apart, counted}
use Rattle.dependence.specs.declared.sets.ReadSet.{ReadSet}
use Rattle.dependence.specs.Candidates.{IsBitOfCode, IsCandidate}
use Rattle.dependence.specs.SufficientBits.{next_value, output_value}
use Rattle.dependence.specs.Reads.{IsReadSet}
use Rattle.kiss_file.specs.declared.file.KissFile.{KissFile}
use Rattle.kiss_file.specs.LawfulFile.{IsLawful}
use Rattle.kiss_file.specs.Machine.{Conflicting}
use Rattle.net_core.specs.declared.Gate.{Gate}
use Rattle.net_core.specs.declared.Network.{Network}
use Rattle.realise.specs.Laws.{ArePairwiseDistinct}
use Rattle.realise.specs.CodeNetwork.{AreCounted, HasGate, IsGateFor, IsWithin, name_at}
use Rattle.state_codes.specs.declared.Codes.{Codes}
use Rattle.state_codes.specs.declared.split.Part.{Part}
use Rattle.split_texts.specs.Inner.RuleReads.{HasReads, ReadByRule}

-- a set by the rule has inputs of the machine and bits of the code
set_within : (W : KissFile) (words : List ℕ) (bits : ℕ) (Candidate : ℕ → Type 0) (value : ℕ → List Bool → Bool) (set : ReadSet) → ((c : ℕ) → Candidate c → c < bits) → IsReadSet W words Candidate value set → IsWithin W.inputs bits set
set_within W words bits Candidate value set below by_rule = record {
  inputs_within = λ k d lt. ((by_rule.inputs (get_or set.inputs k d)).0 (Contains-get_or set.inputs k d lt)).0;
  latches_within = λ k d lt. below (get_or set.latches k d) (by_rule.latches.candidates (get_or set.latches k d) (Contains-get_or set.latches k d lt));
  inputs_ascend = by_rule.inputs_ascend;
  latches_ascend = by_rule.latches_ascend;
}

module _ (F : KissFile) (work : WorkMachine) (codes : Codes) (lawful : IsLawful F) (no_conflict : Conflicting F → ⊥) (words_counted : length codes.words ≡ length (work.machine).states) (short : codes.bits ≤ 64) (reduce : Bool) (is_work : IsWork reduce F work) (parts : List Part) (N : Network)
    (gates : HasGates F work.machine parts codes N) where
  abbrev W : KissFile
  W = work.machine

  names_counted : AreCounted W codes.bits gates.names
  names_counted = counted F work codes lawful no_conflict words_counted short gates.names gates.own reduce is_work

  distinct : ArePairwiseDistinct gates.names
  distinct = apart F work codes lawful no_conflict words_counted short gates.names gates.own

  -- the gate of a set lists its bits
  reads_of_set : (at : ℕ) (set : ReadSet) (value : ℕ → List Bool → Bool) (name : List ℕ) → IsWithin W.inputs codes.bits set → HasGate W codes.words gates.names N at set value name → HasReads N at set
  reads_of_set at set value name within (one, there, is) gate here c =
      let same : one ≡ gate = same_Some one gate (sym there ∙ here) in
      let of_gate : IsGateFor W codes.words gates.names set value name gate = subst (λ (g : Gate). IsGateFor W codes.words gates.names set value name g) same is in (
        read_listed W codes.bits codes.words gates.names N set value name gate names_counted distinct gates.realised.latch_outputs within of_gate c,
        listed_read W codes.bits codes.words gates.names N set value name gate names_counted distinct gates.realised.latch_outputs within of_gate c,
      )

  pub read_by_rule : ReadByRule W parts codes N
  read_by_rule = record {
    sets = gates.sets;
    by_rule = gates.by_rule;
    latches = λ i set at.
        reads_of_set i set (next_value W codes.words i) (name_at gates.names.latch_inputs i)
        (set_within W codes.words codes.bits (IsCandidate parts codes i) (next_value W codes.words i) set (λ c candidate. candidate.bit) (gates.by_rule.latches i set at)) (gates.realised.latch_gates i set at);
    outputs = λ b set at.
        reads_of_set (codes.bits + b) set (output_value W b) (name_at gates.names.outputs b)
        (set_within W codes.words codes.bits (IsBitOfCode codes) (output_value W b) set (λ c below. below) (gates.by_rule.outputs b set at)) (gates.realised.output_gates b set at);
  }
