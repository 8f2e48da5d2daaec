-- For which gates each input matters.
use Rattle.std.specs.Prelude.{◌≡◌, ◌≢◌, ◌⊎◌, ◌↔◌, ℕ, ◌+◌, ◌^◌, ◌<◌, ◌≤◌, Bool, true, Contains, List, Option, length, Some, bit_xor}
use Rattle.std.specs.Int.{bit_at}
use Rattle.cubes.specs.Cube.{clash_of}
use Rattle.cubes.specs.Symbol.{bit}
use Rattle.kiss_file.specs.declared.file.KissFile.{KissFile}
use Rattle.kiss_file.specs.declared.file.KissRow.{KissRow}
use Rattle.dependence.specs.declared.effects.Effect.{Effect}
use Rattle.dependence.specs.declared.bit.Bit.{Bit}
use Rattle.dependence.specs.declared.bit.Bit.TheVariants.{Latch, Output}
use Rattle.dependence.specs.Bit.{IsBit, value_of}
use Rattle.dependence.specs.Effects.{ActsBy, MattersAt}
use Rattle.dependence.specs.RowBits.{row_value}

-- both are given, and they differ
abbrev pub AreGivenApart : Option Bool → Option Bool → Type 0
AreGivenApart first second = (v w : Bool) × (first ≡ Some v) × (second ≡ Some w) × (v ≢ w)

-- the cubes have different bits at the place of input a, and at no other place
pub record DifferAt (inputs : ℕ) (one other : KissRow) (a : ℕ) : Type 0 where
  pub place : ℕ
  pub of_input : place + a + 1 ≡ inputs
  pub clash : clash_of one.cube other.cube ≡ 2 ^ place

-- two rows of one state show that input a matters for the gate
pub record Show (inputs : ℕ) (words : List ℕ) (one other : KissRow) (a : ℕ) (gate : Bit) : Type 0 where
  pub differ : DifferAt inputs one other a
  pub values : AreGivenApart (row_value words gate one) (row_value words gate other)

-- the row and one of the others show it
pub record ShowBeside (inputs : ℕ) (words : List ℕ) (others : List KissRow) (row : KissRow) (a : ℕ) (gate : Bit) : Type 0 where
  pub other : KissRow
  pub among : Contains others other
  pub show : Show inputs words other row a gate

-- one of the rows and one of the others show it
pub record ShowAcross (inputs : ℕ) (words : List ℕ) (rows others : List KissRow) (a : ℕ) (gate : Bit) : Type 0 where
  pub row : KissRow
  pub among : Contains rows row
  pub shown : ShowBeside inputs words others row a gate

-- the row has a 1 at each place of `ones`, and a 0 at each place of `zeros`
pub record HasBits (ones zeros : ℕ) (row : KissRow) : Type 0 where
  pub has_ones : (place : ℕ) → bit_at ones place ≡ 1 → bit_at row.cube.value place ≡ 1
  pub has_zeros : (place : ℕ) → bit_at zeros place ≡ 1 → bit_at (bit_xor row.cube.care row.cube.value) place ≡ 1

-- no row of the first list differs from a row of the second at one place alone
abbrev pub DifferMore : List KissRow → List KissRow → Type 0
DifferMore rows others = (row other : KissRow) (place : ℕ) → Contains rows row → Contains others other → clash_of other.cube row.cube ≢ 2 ^ place

-- the gate is that of one of these latches or outputs, given as bits of a word
abbrev pub acts_in : ℕ → ℕ → Bit → Bool
acts_in latches outputs (Latch i) = bit latches i
acts_in latches outputs (Output b) = bit outputs b

-- the input is this one, and the gate is that of one of these latches or outputs
abbrev pub IsActed : ℕ → ℕ → ℕ → ℕ → Bit → Type 0
IsActed input latches outputs a gate = (a ≡ input) × (acts_in latches outputs gate ≡ true)

-- what is shown was added to the list of effects, and nothing else was
pub record Adds (old new : List Effect) (Shown : ℕ → Bit → Type 0) : Type 0 where
  pub size : length new ≡ length old
  pub keeps : (a : ℕ) (gate : Bit) → ActsBy old a gate → ActsBy new a gate
  pub adds : (a : ℕ) (gate : Bit) → Shown a gate → ActsBy new a gate
  pub only : (a : ℕ) (gate : Bit) → ActsBy new a gate → ActsBy old a gate ⊎ Shown a gate

-- two symbols that differ at the input alone give different values at some state below s
pub record MattersBelow (F : KissFile) (value : ℕ → List Bool → Bool) (s a : ℕ) : Type 0 where
  pub state : ℕ
  pub below : state < s
  pub there : MattersAt F value state a

-- the list has the effects of each input at the states below s
pub record AreEffects (F : KissFile) (words : List ℕ) (effects : List Effect) (s : ℕ) : Type 0 where
  pub size : length effects ≡ F.inputs
  pub few : length effects ≤ 64
  pub each : (a : ℕ) (gate : Bit) → IsBit F gate → ActsBy effects a gate ↔ MattersBelow F (value_of F words gate) s a
