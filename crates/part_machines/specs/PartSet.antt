-- What a part reads: together what its gates read, but for its own bits.
use Rattle.std.specs.Prelude.{◌≡◌, ◌↔◌, ◌⊎◌, ⊤, ℕ, Contains, Option, Some, slice_get}
use Rattle.std.specs.List.Sorted.{IsStrictlyIncreasing}
use Rattle.dependence.specs.declared.bit.Bit.{Bit}
use Rattle.dependence.specs.declared.bit.Bit.TheVariants.{Latch, Output}
use Rattle.dependence.specs.declared.sets.ReadSet.{ReadSet}
use Rattle.dependence.specs.declared.sets.Reads.{Reads}
use Rattle.state_codes.specs.declared.Codes.{Codes}
use Rattle.state_codes.specs.declared.which.Which.{Which}
use Rattle.state_codes.specs.declared.which.Which.TheVariants.{Part as Numbered, Outputs}
use Rattle.part_machines.specs.Which.{own_bits}

-- the gate is one of the part: that of one of its latches, or for the outputs that of an output
abbrev pub IsGateOf : Codes → Which → Bit → Type 0
IsGateOf code which (Latch i) = Contains (own_bits code which) i
IsGateOf code (Numbered j) (Output b) = ⊥
IsGateOf code Outputs (Output b) = ⊤

-- the read set of a gate
abbrev pub set_of_gate : Reads → Bit → Option ReadSet
set_of_gate sets (Latch i) = slice_get sets.latches i
set_of_gate sets (Output b) = slice_get sets.outputs b

-- the read set of some gate of the part has the property
pub record HasGateThat (code : Codes) (sets : Reads) (which : Which) (P : ReadSet → Type 0) : Type 0 where
  pub gate : Bit
  pub own : IsGateOf code which gate
  pub set : ReadSet
  pub of_gate : set_of_gate sets gate ≡ Some set
  pub has : P set

-- input a is read by a gate of the part
abbrev pub IsInputRead : Codes → Reads → Which → ℕ → Type 0
IsInputRead code sets which a = HasGateThat code sets which (λ set. Contains set.inputs a)

-- bit c is one of another part, and is read by a gate of the part
abbrev pub IsBitRead : Codes → Reads → Which → ℕ → Type 0
IsBitRead code sets which c = HasGateThat code sets which (λ set. Contains set.latches c) × ¬ Contains (own_bits code which) c

-- no input is read, and no bit of another part
abbrev pub ReadsNothing : Codes → Reads → Which → Type 0
ReadsNothing code sets which = ((a : ℕ) → ¬ IsInputRead code sets which a) × ((c : ℕ) → ¬ IsBitRead code sets which c)

-- Input a of the file is an input of the part's machine: it is read. A part that reads nothing has input 0.
abbrev pub IsInputOf : Codes → Reads → Which → ℕ → Type 0
IsInputOf code sets which a = IsInputRead code sets which a ⊎ (ReadsNothing code sets which × (a ≡ 0))

-- the inputs of the file and the bits of other parts that are the inputs of the part's machine, both ascending
pub record IsPartSet (code : Codes) (sets : Reads) (which : Which) (set : ReadSet) : Type 0 where
  pub inputs : (a : ℕ) → Contains set.inputs a ↔ IsInputOf code sets which a
  pub inputs_ascend : IsStrictlyIncreasing set.inputs
  pub latches : (c : ℕ) → Contains set.latches c ↔ IsBitRead code sets which c
  pub latches_ascend : IsStrictlyIncreasing set.latches
