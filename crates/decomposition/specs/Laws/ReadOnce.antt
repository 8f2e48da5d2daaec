-- What a gate reads is determined.
use Rattle.std.proofs.Common.{◌≡◌, ◌↔◌, ◌⊎◌, ◌∙◌, ℕ, zero, suc, ◌+◌, ◌<◌, ◌≤◌, Bool, Contains, List, inl, inr, sym, arith}
use Rattle.std.proofs.lemmas.Bool.{cases_eq}
use Rattle.list_facts.specs.Laws.Members.{among_or_not}
use Rattle.dependence.specs.declared.sets.ReadSet.{ReadSet}
use Rattle.dependence.specs.declared.sets.Reads.{Reads}
use Rattle.dependence.specs.Candidates.{IsBitOfCode, IsCandidate}
use Rattle.dependence.specs.SufficientBits.{next_value, output_value}
use Rattle.dependence.specs.ReadRule.{Beside, IsReadRule}
use Rattle.dependence.specs.Reads.{AreReads, IsReadSet}
use Rattle.dependence.specs.Laws.Judged.{permits_more}
use Rattle.kiss_file.specs.declared.file.KissFile.{KissFile}
use Rattle.state_codes.specs.declared.Codes.{Codes}
use Rattle.state_codes.specs.declared.split.Part.{Part}
use Rattle.decomposition.specs.Laws.Lists.{same_ascending, same_items}

-- a bit that one read set has, the other has too, where above it the other has no bit that the one has not
also_read : (F : KissFile) (words : List ℕ) (Candidate R S : ℕ → Type 0) (value : ℕ → List Bool → Bool) (c : ℕ) → S c ⊎ (S c → ⊥) → IsReadRule F words Candidate R value → IsReadRule F words Candidate S value
    → ((d : ℕ) → c < d → S d → R d) → R c → S c
also_read F words Candidate R S value c decided one other above is =
    elim decided [
      | inl there ↦ there
      | inr out ↦
          absurd (one.needed c is (permits_more F words (Beside Candidate S c) (Beside Candidate R c) value
          (λ d beside. elim beside [ inl low ↦ inl low | inr high ↦ inr (high.0, above d high.0 high.1) ])
          (other.spared c (one.candidates c is) out)))
    ]

module _ (F : KissFile) (words : List ℕ) (Candidate : ℕ → Type 0) (value : ℕ → List Bool → Bool) (bits : ℕ) (within : (c : ℕ) → Candidate c → c < bits) (read others : List ℕ) (one : IsReadRule F words Candidate (Contains read) value) (other : IsReadRule F words Candidate (Contains others) value) where
  -- from the top candidate down
  read_from : (gap c : ℕ) → c + gap ≡ bits → (d : ℕ) → c ≤ d → Contains read d ↔ Contains others d
  read_from zero c at d low =
      ((λ is. absurd (omega (arith, at, low, within d (one.candidates d is)))), (λ is. absurd (omega (arith, at, low, within d (other.candidates d is)))))
  read_from (suc gap) c at d low =
      let above : (e : ℕ) → c + 1 ≤ e → Contains read e ↔ Contains others e = read_from gap (c + 1) (omega (arith, at)) in
      elim (cases_eq d c) [
        | inl here ↦ (
          also_read F words Candidate (Contains read) (Contains others) value d (among_or_not others d) one other (λ e high. (above e (omega (arith, high, low))).1),
          also_read F words Candidate (Contains others) (Contains read) value d (among_or_not read d) other one (λ e high. (above e (omega (arith, high, low))).0),
        )
        | inr apart ↦ above d (omega (arith, low, apart))
      ]

  pub rule_once : (c : ℕ) → Contains read c ↔ Contains others c
  rule_once c = read_from bits 0 (omega arith) c (omega arith)

same_set : (inputs more latches others : List ℕ) → inputs ≡ more → latches ≡ others → ◌≡◌ {A = ReadSet} (record { inputs = inputs; latches = latches }) (record { inputs = more; latches = others })
same_set inputs more latches others a b = cc

-- one set is read
set_once : (F : KissFile) (words : List ℕ) (Candidate : ℕ → Type 0) (value : ℕ → List Bool → Bool) (bits : ℕ) → ((c : ℕ) → Candidate c → c < bits)
    → (set more : ReadSet) → IsReadSet F words Candidate value set → IsReadSet F words Candidate value more → set ≡ more
set_once F words Candidate value bits within set more one other =
    same_set set.inputs more.inputs set.latches more.latches
    (same_ascending set.inputs more.inputs one.inputs_ascend other.inputs_ascend
    (λ a. ((λ is. (other.inputs a).1 ((one.inputs a).0 is)), (λ is. (one.inputs a).1 ((other.inputs a).0 is)))))
    (same_ascending set.latches more.latches one.latches_ascend other.latches_ascend
    (rule_once F words Candidate value bits within set.latches more.latches one.latches other.latches))

same_reads : (latches more outputs others : List ReadSet) → latches ≡ more → outputs ≡ others → ◌≡◌ {A = Reads} (record { latches = latches; outputs = outputs }) (record { latches = more; outputs = others })
same_reads latches more outputs others a b = cc

-- the machine, the parts and the codes determine what each gate reads
pub reads_once : (F : KissFile) (parts : List Part) (codes : Codes) (sets more : Reads) → AreReads F parts codes sets → AreReads F parts codes more → sets ≡ more
reads_once F parts codes sets more one other =
    same_reads sets.latches more.latches sets.outputs more.outputs
    (same_items sets.latches more.latches (one.latch_count ∙ sym other.latch_count) (λ i set another there there_too.
    set_once F codes.words (IsCandidate parts codes i) (next_value F codes.words i) codes.bits (λ c is. is.bit) set another (one.latches i set there) (other.latches i another there_too)))
    (same_items sets.outputs more.outputs (one.output_count ∙ sym other.output_count) (λ b set another there there_too.
    set_once F codes.words (IsBitOfCode codes) (output_value F b) codes.bits (λ c is. is) set another (one.outputs b set there) (other.outputs b another there_too)))
