-- What the gates read is enough for what they give.
use Rattle.std.proofs.Common.{◌≡◌, ℕ, ◌<◌, ◌≤◌, inl, inr, Bool, Contains, List, get_or, length, sym, ap, ◌∙◌, arith}
use Rattle.std.specs.Int.{bit_at}
use Rattle.std.proofs.lemmas.Bool.{cases_lt}
use Rattle.std.proofs.lemmas.List.{get_or_past, length-map}
use Rattle.std.proofs.lemmas.List.Elements.{Contains-get_or}
use Rattle.std.proofs.lemmas.Nat.Bits.{same_from_bits}
use Rattle.std.proofs.lemmas.Option.{slice_get-get_or, slice_get_within}
use Rattle.dependence.specs.declared.sets.ReadSet.{ReadSet}
use Rattle.dependence.specs.declared.sets.Reads.{Reads}
use Rattle.dependence.specs.Candidates.{IsBitOfCode, IsCandidate}
use Rattle.dependence.specs.SufficientBits.{PermitsOutput, PermitsValue, next_value, output_value}
use Rattle.dependence.specs.ReadRule.{LatchRuleIsIrredundant, OutputRuleIsIrredundant}
use Rattle.dependence.specs.Reads.{AreReads, IsReadSet}
use Rattle.kiss_file.specs.declared.file.KissFile.{KissFile}
use Rattle.realise.specs.CodeNetwork.{AreEnough, IsEnough, IsWithin}
use Rattle.state_codes.specs.declared.Codes.{Codes}
use Rattle.state_codes.specs.declared.split.Part.{Part}
use Rattle.state_codes.specs.Agreement.{AreDistinct}
use Rattle.state_codes.specs.Code.{IsCode, Place, bit_of, places_of, state_code}
use Rattle.decomposition.specs.Flow.{CandidatesPermit}
use Rattle.decomposition.specs.Irredundance.{AreIrredundant}

-- a code has no bits but its own
pub no_bit_past : (n : ℕ) (parts : List Part) (codes : Codes) → IsCode n parts codes → (s i : ℕ) → s < n → codes.bits ≤ i → bit_at (get_or codes.words s 0) i ≡ 0
no_bit_past n parts codes code s i in_s past =
    let places : List Place = places_of 0 parts code.inners in
    code.written.spelled s in_s i ∙ get_or_past (state_code places s) i 0 (omega (arith, past, code.written.size, length-map places (bit_of s)))

module _ (W : KissFile) (parts : List Part) (codes : Codes) (code : IsCode (length W.states) parts codes) where
  -- all bits tell all states apart, so they permit each output
  all_bits_permit : AreDistinct (length W.states) codes.words → (b : ℕ) → PermitsOutput W codes.words (IsBitOfCode codes) b
  all_bits_permit distinct b s t x in_s in_t agree symbol =
      let same : get_or codes.words s 0 ≡ get_or codes.words t 0 =
      same_from_bits (get_or codes.words s 0) (get_or codes.words t 0)
      (λ i.
      elim (cases_lt i codes.bits) [
        | inl below ↦ agree i below
        | inr past ↦ no_bit_past (length W.states) parts codes code s i in_s past ∙ sym (no_bit_past (length W.states) parts codes code t i in_t past)
      ]) in
      ap (λ (u : ℕ). output_value W b u x) (distinct s t in_s in_t same)

  -- a read set has inputs of the machine and bits of the code
  within_of : (Candidate : ℕ → Type 0) (value : ℕ → List Bool → Bool) (set : ReadSet) → ((c : ℕ) → Candidate c → c < codes.bits) → IsReadSet W codes.words Candidate value set → IsWithin W.inputs codes.bits set
  within_of Candidate value set below is =
      record {
        inputs_within = λ k d lt. ((is.inputs (get_or set.inputs k d)).0 (Contains-get_or set.inputs k d lt)).0;
        latches_within = λ k d lt. below (get_or set.latches k d) (is.latches.candidates (get_or set.latches k d) (Contains-get_or set.latches k d lt));
        inputs_ascend = is.inputs_ascend;
        latches_ascend = is.latches_ascend;
      }

  -- it is enough where its bits permit the value
  enough_of : (Candidate : ℕ → Type 0) (value : ℕ → List Bool → Bool) (set : ReadSet) → IsReadSet W codes.words Candidate value set → PermitsValue W codes.words (Contains set.latches) value → IsEnough W codes.words value set
  enough_of Candidate value set is permits = record { permits = permits; matter = λ a below matters. (is.inputs a).1 (below, matters) }

  -- the read sets are enough
  pub enough : (sets : Reads) → LatchRuleIsIrredundant → OutputRuleIsIrredundant → CandidatesPermit W parts codes → AreDistinct (length W.states) codes.words → AreReads W parts codes sets → AreEnough W codes.bits codes.words sets
  enough sets latch_rule output_rule permit distinct are =
      record {
        latch_count = are.latch_count;
        output_count = are.output_count;
        latches_within = λ i d lt.
            within_of (IsCandidate parts codes i) (next_value W codes.words i) (get_or sets.latches i d) (λ c candidate. candidate.bit)
            (are.latches i (get_or sets.latches i d) (slice_get-get_or sets.latches i d lt));
        outputs_within = λ b d lt.
            within_of (IsBitOfCode codes) (output_value W b) (get_or sets.outputs b d) (λ c below. below)
            (are.outputs b (get_or sets.outputs b d) (slice_get-get_or sets.outputs b d lt));
        latches = λ i set stands.
            let is : IsReadSet W codes.words (IsCandidate parts codes i) (next_value W codes.words i) set = are.latches i set stands in
            enough_of (IsCandidate parts codes i) (next_value W codes.words i) set is
            (latch_rule W codes.words parts codes i set.latches (next_value W codes.words i) (permit i (omega (arith, slice_get_within sets.latches i set stands, are.latch_count))) is.latches).permits;
        outputs = λ b set stands.
            let is : IsReadSet W codes.words (IsBitOfCode codes) (output_value W b) set = are.outputs b set stands in
            enough_of (IsBitOfCode codes) (output_value W b) set is
            (output_rule W codes.words codes set.latches (output_value W b) (all_bits_permit distinct b) is.latches).permits;
      }

  -- and none of their bits can be left out
  pub irredundant : (sets : Reads) → LatchRuleIsIrredundant → OutputRuleIsIrredundant → CandidatesPermit W parts codes → AreDistinct (length W.states) codes.words → AreReads W parts codes sets → AreIrredundant W codes.words sets
  irredundant sets latch_rule output_rule permit distinct are =
      record {
        latches = λ i set stands.
            latch_rule W codes.words parts codes i set.latches (next_value W codes.words i) (permit i (omega (arith, slice_get_within sets.latches i set stands, are.latch_count))) (are.latches i set stands).latches;
        outputs = λ b set stands. output_rule W codes.words codes set.latches (output_value W b) (all_bits_permit distinct b) (are.outputs b set stands).latches;
      }
