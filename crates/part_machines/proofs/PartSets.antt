-- What a part reads, from what the gates in a word read.
use Rattle.std.proofs.Common.{◌≡◌, ◌↔◌, ◌⊎◌, inl, inr, ℕ, ◌-◌, ◌^◌, ◌<◌, ◌≤◌, All, Contains, Some, length, arith}
use Rattle.std.proofs.lemmas.List.Elements.{All-contains}
use Rattle.std.proofs.lemmas.Nat.Bits.{bit_at_ones}
use Rattle.std.proofs.lemmas.Option.{slice_get_within}
use Rattle.dependence.specs.declared.bit.Bit.{Bit}
use Rattle.dependence.specs.declared.bit.Bit.TheVariants.{Latch, Output}
use Rattle.dependence.specs.declared.sets.ReadSet.{ReadSet}
use Rattle.dependence.specs.declared.sets.Reads.{Reads}
use Rattle.dependence.specs.BitLists.{AreListed}
use Rattle.dependence.specs.SufficientBits.{InWord}
use Rattle.list_facts.specs.Laws.Everywhere.{all_at}
use Rattle.list_facts.specs.Laws.Members.{Contains-none}
use Rattle.state_codes.specs.declared.Codes.{Codes}
use Rattle.state_codes.specs.declared.which.Which.{Which}
use Rattle.state_codes.specs.declared.which.Which.TheVariants.{Part as Numbered, Outputs}
use Rattle.part_machines.specs.Inner.Gathered.{HasSetThat, IsSmall}
use Rattle.part_machines.specs.PartSet.{HasGateThat, IsGateOf, IsPartSet, set_of_gate}
use Rattle.part_machines.specs.Which.{own_bits}
use Rattle.part_machines.proofs.Gathering.{none_in_zero, zero_without_bits}

module _ (code : Codes) (sets : Reads) (P : ReadSet → Type 0) where
  -- the gates of a part with a number are those of its latches
  module _ (j own : ℕ) (owned : (c : ℕ) → InWord own c ↔ Contains (own_bits code (Numbered j)) c) where
    pub part_from_sets : HasSetThat sets.latches own (length sets.latches) P → HasGateThat code sets (Numbered j) P
    part_from_sets has = record { gate = Latch has.place; own = (owned has.place).0 has.gate; set = has.set; of_gate = has.there; has = has.has }

    pub sets_from_part : HasGateThat code sets (Numbered j) P → HasSetThat sets.latches own (length sets.latches) P
    sets_from_part has = by has.gate has.own has.of_gate
      where
        by : (gate : Bit) → IsGateOf code (Numbered j) gate → set_of_gate sets gate ≡ Some has.set → HasSetThat sets.latches own (length sets.latches) P
        by (Latch i) of_part there = record {
          place = i;
          within = slice_get_within sets.latches i has.set there;
          gate = (owned i).1 of_part;
          set = has.set;
          there = there;
          has = has.has;
        }
        by (Output b) of_part there = absurd of_part

  -- those of the outputs are all gates of outputs
  pub outputs_from_sets : (gates : ℕ) → HasSetThat sets.outputs gates (length sets.outputs) P → HasGateThat code sets Outputs P
  outputs_from_sets gates has = record { gate = Output has.place; own = tt; set = has.set; of_gate = has.there; has = has.has }

  pub sets_from_outputs : length sets.outputs ≤ 64 → HasGateThat code sets Outputs P → HasSetThat sets.outputs (2 ^ 64 - 1) (length sets.outputs) P
  sets_from_outputs few has = by has.gate has.own has.of_gate
    where
      by : (gate : Bit) → IsGateOf code Outputs gate → set_of_gate sets gate ≡ Some has.set → HasSetThat sets.outputs (2 ^ 64 - 1) (length sets.outputs) P
      by (Latch i) of_part there = absurd (Contains-none i of_part)
      by (Output b) of_part there =
          let within : b < length sets.outputs = slice_get_within sets.outputs b has.set there in
          record { place = b; within = within; gate = bit_at_ones 64 b (omega (arith, within, few)); set = has.set; there = there; has = has.has }

-- numbers in small sets are small
pub small_input : (code : Codes) (sets : Reads) (which : Which) (a : ℕ) → All IsSmall sets.latches → All IsSmall sets.outputs → HasGateThat code sets which (λ set. Contains set.inputs a) → a < 64
small_input code sets which a latches outputs has = by has.gate has.of_gate
  where
    by : (gate : Bit) → set_of_gate sets gate ≡ Some has.set → a < 64
    by (Latch i) there = All-contains (λ d. d < 64) has.set.inputs a (all_at IsSmall sets.latches i has.set latches there).inputs has.has
    by (Output b) there = All-contains (λ d. d < 64) has.set.inputs a (all_at IsSmall sets.outputs b has.set outputs there).inputs has.has

pub small_latch : (code : Codes) (sets : Reads) (which : Which) (c : ℕ) → All IsSmall sets.latches → All IsSmall sets.outputs → HasGateThat code sets which (λ set. Contains set.latches c) → c < 64
small_latch code sets which c latches outputs has = by has.gate has.of_gate
  where
    by : (gate : Bit) → set_of_gate sets gate ≡ Some has.set → c < 64
    by (Latch i) there = All-contains (λ d. d < 64) has.set.latches c (all_at IsSmall sets.latches i has.set latches there).latches has.has
    by (Output b) there = All-contains (λ d. d < 64) has.set.latches c (all_at IsSmall sets.outputs b has.set outputs there).latches has.has

-- the lists of the words are what the part reads
module _ (code : Codes) (sets : Reads) (which : Which) (latches : All IsSmall sets.latches) (outputs : All IsSmall sets.outputs) (own read_inputs read_latches others shown : ℕ)
    (owned : (c : ℕ) → InWord own c ↔ Contains (own_bits code which) c)
    (inputs_are : (a : ℕ) → InWord read_inputs a ↔ HasGateThat code sets which (λ set. Contains set.inputs a))
    (latches_are : (c : ℕ) → InWord read_latches c ↔ HasGateThat code sets which (λ set. Contains set.latches c))
    (others_are : (c : ℕ) → InWord others c ↔ (InWord read_latches c × ¬ InWord own c))
    (shown_are : (a : ℕ) → InWord shown a ↔ (InWord read_inputs a ⊎ ((read_inputs ≡ 0) × (others ≡ 0) × (a ≡ 0)))) where
  pub part_set : (set : ReadSet) → AreListed set.inputs shown 64 → AreListed set.latches others 64 → IsPartSet code sets which set
  part_set set listed_inputs listed_latches = record {
    inputs = λ a. (
      (λ among. elim ((shown_are a).0 ((listed_inputs.each a).0 among).1) [
        | inl read ↦ inl ((inputs_are a).0 read)
        | inr none ↦ inr (
          (
            (λ b is. none_in_zero read_inputs b none.0 ((inputs_are b).1 is)),
            (λ c is. none_in_zero others c none.1 ((others_are c).1 ((latches_are c).1 is.0, λ in_own. is.1 ((owned c).0 in_own)))),
          ),
          none.2,
        )
      ]),
      (λ is. elim is [
        | inl read ↦ (listed_inputs.each a).1 (small_input code sets which a latches outputs read, (shown_are a).1 (inl ((inputs_are a).1 read)))
        | inr none ↦ (listed_inputs.each a).1 (
          omega (arith, none.1),
          (shown_are a).1 (inr (
            zero_without_bits read_inputs (λ b in_word. none.0.0 b ((inputs_are b).0 in_word)),
            zero_without_bits others (λ c in_word. let both = (others_are c).0 in_word in none.0.1 c ((latches_are c).0 both.0, λ mine. both.1 ((owned c).1 mine))),
            none.1,
          )),
        )
      ]),
    );
    inputs_ascend = listed_inputs.ascend;
    latches = λ c. (
      (λ among. let both = (others_are c).0 ((listed_latches.each c).0 among).1 in ((latches_are c).0 both.0, λ mine. both.1 ((owned c).1 mine))),
      (λ is. (listed_latches.each c).1 (small_latch code sets which c latches outputs is.0, (others_are c).1 ((latches_are c).1 is.0, λ in_own. is.1 ((owned c).0 in_own)))),
    );
    latches_ascend = listed_latches.ascend;
  }
