-- What a part reads is among the inputs and bits, and there is something.
use Rattle.std.proofs.Common.{◌≡◌, inl, inr, ℕ, ◌+◌, ◌<◌, ◌≤◌, All, Contains, List, Some, get_or, length, refl, arith}
use Rattle.std.proofs.lemmas.Bool.{cases_lt}
use Rattle.std.proofs.lemmas.List.Elements.{All-contains, Contains-get_or}
use Rattle.dependence.specs.declared.bit.Bit.{Bit}
use Rattle.dependence.specs.declared.bit.Bit.TheVariants.{Latch, Output}
use Rattle.dependence.specs.declared.sets.ReadSet.{ReadSet}
use Rattle.dependence.specs.declared.sets.Reads.{Reads}
use Rattle.kiss_file.specs.declared.file.KissFile.{KissFile}
use Rattle.list_facts.specs.Laws.Everywhere.{all_at}
use Rattle.realise.specs.CodeNetwork.{AreEnough, IsWithin}
use Rattle.state_codes.specs.declared.Codes.{Codes}
use Rattle.state_codes.specs.declared.which.Which.{Which}
use Rattle.part_machines.specs.PartSet.{IsPartSet, set_of_gate}

module _ (W : KissFile) (code : Codes) (sets : Reads) (which : Which) (set : ReadSet) (enough : AreEnough W code.bits code.words sets) (reads : IsPartSet code sets which set) where
  gate_within : (gate : Bit) (own : ReadSet) → set_of_gate sets gate ≡ Some own → IsWithin W.inputs code.bits own
  gate_within (Latch i) own is = all_at (IsWithin W.inputs code.bits) sets.latches i own enough.latches_within is
  gate_within (Output b) own is = all_at (IsWithin W.inputs code.bits) sets.outputs b own enough.outputs_within is

  pub inputs_within : 1 ≤ W.inputs → All (λ a. a < W.inputs) set.inputs
  inputs_within some k d within =
      let a : ℕ = get_or set.inputs k d in
      elim ((reads.inputs a).0 (Contains-get_or set.inputs k d within)) [
        | inl read ↦ All-contains (λ b. b < W.inputs) read.set.inputs a (gate_within read.gate read.set read.of_gate).inputs_within read.has
        | inr nothing ↦ omega (arith, nothing.1, some)
      ]

  pub latches_within : All (λ c. c < code.bits) set.latches
  latches_within k d within =
      let c : ℕ = get_or set.latches k d in
      let read = ((reads.latches c).0 (Contains-get_or set.latches k d within)).0 in
      All-contains (λ b. b < code.bits) read.set.latches c (gate_within read.gate read.set read.of_gate).latches_within read.has

  none_in : (list : List ℕ) (x : ℕ) → length list ≡ 0 → Contains list x → ⊥
  none_in list x none among = omega (arith, none, among.1)

  pub some_read : 0 < length set.inputs + length set.latches
  some_read =
      elim (cases_lt 0 (length set.inputs + length set.latches)) [
        | inl some ↦ some
        | inr none ↦
            let no_inputs : length set.inputs ≡ 0 = omega (arith, none) in
            let no_latches : length set.latches ≡ 0 = omega (arith, none) in
            absurd (none_in set.inputs 0 no_inputs
            ((reads.inputs 0).1
            (inr (
              (
                (λ a read. none_in set.inputs a no_inputs ((reads.inputs a).1 (inl read))),
                (λ c read. none_in set.latches c no_latches ((reads.latches c).1 read)),
              ),
              refl,
            ))))
      ]
