-- The machine of a part of a worked machine.
use Rattle.std.proofs.Common.{◌≡◌, ◌∙◌, ◌<◌, ◌+◌, ◌⊎◌, ℕ, zero, suc, Contains, List, [], ◌∷◌, ◌++◌, Some, codes, get_or, map, refl, sym, ap, subst, inl, inr, arith}
use Rattle.std.proofs.lemmas.Option.{same_Some}
use Rattle.list_facts.specs.Laws.Members.{Contains-cons, Contains-here, Contains-none, Contains-one, Contains-there}
use Rattle.dependence.specs.declared.bit.Bit.{Bit}
use Rattle.dependence.specs.declared.bit.Bit.TheVariants.{Latch, Output}
use Rattle.dependence.specs.declared.sets.ReadSet.{ReadSet}
use Rattle.state_codes.specs.declared.which.Which.TheVariants.{Part as Numbered}
use Rattle.realise.specs.CodeNetwork.{name_at}
use Rattle.part_machines.specs.PartMachine.{input_names}
use Rattle.part_machines.specs.PartSet.{HasGateThat, IsBitRead, IsGateOf, IsInputOf, IsPartSet, set_of_gate}
use Rattle.part_laws.specs.WorkedPart.{IsSecondPart, PairCubes, counter_code, counter_names, counter_sets, second_part, with_inputs}
use Rattle.part_laws.proofs.WorkedCubes.{the_cubes}
use Rattle.part_laws.proofs.WorkedRows.{p, rows, set}
use Rattle.part_laws.proofs.WorkedSteps.{moore, no_conflict, specified, steps}

-- ---- what the part reads
abbrev own : List ℕ
own = 1 ∷ 2 ∷ []

gate_1 : HasGateThat counter_code counter_sets (Numbered 1) (λ set. Contains set.inputs 1)
gate_1 = record { gate = Latch 1; own = Contains-here 1 (2 ∷ []); set = record { inputs = 1 ∷ []; latches = 1 ∷ 2 ∷ [] }; of_gate = refl; has = Contains-here 1 [] }

gate_2 : HasGateThat counter_code counter_sets (Numbered 1) (λ set. Contains set.latches 0)
gate_2 = record { gate = Latch 2; own = Contains-there 1 2 (2 ∷ []) (Contains-here 2 []); set = record { inputs = 1 ∷ []; latches = 0 ∷ 2 ∷ [] }; of_gate = refl; has = Contains-here 0 (2 ∷ []) }

inputs_of : (gate : Bit) (read : ReadSet) → IsGateOf counter_code (Numbered 1) gate → set_of_gate counter_sets gate ≡ Some read → read.inputs ≡ 1 ∷ []
inputs_of (Latch zero) read own is = ap (λ (s : ReadSet). s.inputs) (sym (same_Some _ read is))
inputs_of (Latch (suc zero)) read own is = ap (λ (s : ReadSet). s.inputs) (sym (same_Some _ read is))
inputs_of (Latch (suc (suc zero))) read own is = ap (λ (s : ReadSet). s.inputs) (sym (same_Some _ read is))
inputs_of (Latch (suc (suc (suc i)))) read own is = absurd (cc)
inputs_of (Output b) read own is = absurd own

two_of_own : (c : ℕ) → Contains own c → (1 ≡ c) ⊎ (2 ≡ c)
two_of_own c among =
    elim (Contains-cons 1 c (2 ∷ []) among) [
      | inl first ↦ inl first
      | inr later ↦ inr (Contains-one 2 c later)
    ]

not_0 : Contains own 0 → ⊥
not_0 among =
    elim (two_of_own 0 among) [
      | inl first ↦ absurd (omega (arith, first))
      | inr second ↦ absurd (omega (arith, second))
    ]

-- a bit that a gate of the part reads is one of its own, or bit 0
latch_of : (gate : Bit) (read : ReadSet) (c : ℕ) → IsGateOf counter_code (Numbered 1) gate → set_of_gate counter_sets gate ≡ Some read → Contains read.latches c → Contains own c ⊎ (0 ≡ c)
latch_of (Latch zero) read c of_part is among = absurd (not_0 of_part)
latch_of (Latch (suc zero)) read c of_part is among =
    inl (subst (λ (s : ReadSet). Contains s.latches c) (sym (same_Some (record { inputs = 1 ∷ []; latches = 1 ∷ 2 ∷ [] }) read is)) among)
latch_of (Latch (suc (suc zero))) read c of_part is among =
    elim (Contains-cons 0 c (2 ∷ []) (subst (λ (s : ReadSet). Contains s.latches c) (sym (same_Some (record { inputs = 1 ∷ []; latches = 0 ∷ 2 ∷ [] }) read is)) among)) [
      | inl first ↦ inr first
      | inr later ↦ inl (Contains-there 1 c (2 ∷ []) later)
    ]
latch_of (Latch (suc (suc (suc i)))) read c of_part is among = absurd (cc)
latch_of (Output b) read c of_part is among = absurd of_part

input_read : (a : ℕ) → Contains (1 ∷ []) a → IsInputOf counter_code counter_sets (Numbered 1) a
input_read a among = subst (IsInputOf counter_code counter_sets (Numbered 1)) (Contains-one 1 a among) (inl gate_1)

read_input : (a : ℕ) → IsInputOf counter_code counter_sets (Numbered 1) a → Contains (1 ∷ []) a
read_input a (inl read) = subst (λ (list : List ℕ). Contains list a) (inputs_of read.gate read.set read.own read.of_gate) read.has
read_input a (inr none) = absurd (none.0.0 1 gate_1)

bit_read : (c : ℕ) → Contains (0 ∷ []) c → IsBitRead counter_code counter_sets (Numbered 1) c
bit_read c among = subst (IsBitRead counter_code counter_sets (Numbered 1)) (Contains-one 0 c among) (gate_2, not_0)

read_bit : (c : ℕ) → IsBitRead counter_code counter_sets (Numbered 1) c → Contains (0 ∷ []) c
read_bit c (read, other) =
    elim (latch_of read.gate read.set c read.own read.of_gate read.has) [
      | inl its_own ↦ absurd (other its_own)
      | inr first ↦ subst (Contains (0 ∷ [])) first (Contains-here 0 [])
    ]

one_item : (x k : ℕ) → k + 1 < 1 → get_or (x ∷ []) k 0 < get_or (x ∷ []) (k + 1) 0
one_item x k below = absurd (omega (arith, below))

reads : IsPartSet counter_code counter_sets (Numbered 1) set
reads = record {
  inputs = λ a. (input_read a, read_input a);
  inputs_ascend = one_item 1;
  latches = λ c. (bit_read c, read_bit c);
  latches_ascend = one_item 0;
}

pub machine : (cubes : PairCubes) × IsSecondPart cubes (second_part cubes)
machine = (
  the_cubes,
  record {
    partition = p;
    blocks_are = refl;
    set = set;
    reads = reads;
    signals = record { inputs = refl; input_names = refl; outputs = refl; output_names = refl };
    blocks = record { states = refl; reset = refl };
    steps = steps;
    moore = moore;
    specified = specified;
    no_conflict = no_conflict;
    rows = rows;
  },
)

-- ---- the inputs of the file come first
first_input : (inputs : List ℕ) (more : List (List ℕ)) → Contains inputs 1 → ((a : ℕ) → Contains inputs a → Contains (1 ∷ []) a)
    → codes "q0" ∷ codes "v" ∷ [] ≡ map (name_at counter_names.inputs) inputs ++ more → ⊥
first_input [] more has only same = absurd (Contains-none 1 has)
first_input (a ∷ inputs) more has only same =
    let one : 1 ≡ a = Contains-one 1 a (only a (Contains-here a inputs)) in
    let wrong : codes "q0" ≡ codes "v" = ap (λ (list : List (List ℕ)). get_or list 0 []) same ∙ ap (name_at counter_names.inputs) (sym one) in
    absurd (omega (arith, ap (λ (name : List ℕ). get_or name 0 0) wrong))

pub not_bits_first : (cubes : PairCubes) → IsSecondPart cubes (with_inputs cubes (codes "q0" ∷ codes "v" ∷ [])) → ⊥
not_bits_first cubes is =
    first_input is.set.inputs (map (name_at counter_names.latch_outputs) is.set.latches) ((is.reads.inputs 1).1 (inl gate_1))
    (λ a among. read_input a ((is.reads.inputs a).0 among))
    (same_Some (codes "q0" ∷ codes "v" ∷ []) (input_names counter_names is.set) is.signals.input_names)
