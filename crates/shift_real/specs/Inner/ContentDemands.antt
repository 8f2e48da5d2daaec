-- What is asked of the gate of an output, content by content.
use Rattle.std.specs.Prelude.{◌≡◌, ℕ, ◌<◌, ◌^◌, All, Contains, List, Option, length, slice_index, bit_and}
use Rattle.std.specs.Option.{option_map}
use Rattle.cubes.specs.Cube.{HoldsNumber}
use Rattle.cubes.specs.Symbol.{symbol_of}
use Rattle.gate_rows.specs.declared.demands.Demand.{Demand}
use Rattle.gate_rows.specs.Demands.{demand_at}
use Rattle.kiss_file.specs.declared.file.KissFile.{KissFile}
use Rattle.kiss_file.specs.declared.file.KissRow.{KissRow}
use Rattle.kiss_file.specs.Machine.{given_bit, output_bit}

-- what the row gives of output b, for the content with this number
abbrev pub asked_by : ℕ → ℕ → KissRow → Option Demand
asked_by b number row = option_map (demand_at row.cube number) (given_bit b row)

-- the word is the number of a content, and the first state of its class gives the bit of output b at each symbol
pub record IsClassDemand (F : KissFile) (b : ℕ) (classes : List ℕ) (at : Demand) : Type 0 where
  pub number : at.word < length classes
  pub width : at.cube.width ≡ F.inputs
  pub gives : (x : ℕ) → x < 2 ^ F.inputs → HoldsNumber at.cube x → output_bit F (slice_index classes at.word) (symbol_of F.inputs x) b ≡ at.given

-- a demand of the list holds the symbol with the number x after the content
abbrev pub IsHeldAfter : List Demand → ℕ → ℕ → Type 0
IsHeldAfter demands number x = (at : Demand) × Contains demands at × (at.word ≡ number) × HoldsNumber at.cube x

-- demands that hold each symbol after each of some contents
pub record AreClassDemands (F : KissFile) (b : ℕ) (classes : List ℕ) (Some : ℕ → Type 0) (demands : List Demand) : Type 0 where
  pub right : All (IsClassDemand F b classes) demands
  pub each : (number x : ℕ) → number < length classes → Some number → x < 2 ^ F.inputs → IsHeldAfter demands number x

-- the contents whose latches outside the mask are 0
abbrev pub IsWithinMask : ℕ → ℕ → Type 0
IsWithinMask mask number = bit_and number mask ≡ number

-- those of a class that is less than the given class
pub record IsOfClassBelow (classes : List ℕ) (mask class number : ℕ) : Type 0 where
  pub masked : IsWithinMask mask number
  pub of_class : slice_index classes number < class

-- those of the given class whose number is below far
pub record IsOfClassAsFar (classes : List ℕ) (mask class far number : ℕ) : Type 0 where
  pub masked : IsWithinMask mask number
  pub of_class : slice_index classes number ≡ class
  pub before : number < far
