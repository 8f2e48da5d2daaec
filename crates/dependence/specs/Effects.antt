-- For which gates each input matters, as bits of words.
use Rattle.std.specs.Prelude.{◌≡◌, ◌≢◌, ◌⊎◌, ◌↔◌, ℕ, ◌<◌, Bool, true, List, length, slice_get, Some}
use Rattle.cubes.specs.Symbol.{bit}
use Rattle.kiss_file.specs.declared.file.KissFile.{KissFile}
use Rattle.dependence.specs.declared.effects.Effect.{Effect}
use Rattle.dependence.specs.declared.bit.Bit.{Bit}
use Rattle.dependence.specs.declared.bit.Bit.TheVariants.{Latch, Output}
use Rattle.dependence.specs.Bit.{IsBit, value_of}
use Rattle.dependence.specs.Inputs.{DifferAlone}

-- the number of the latch or of the output is that of a bit of a word
abbrev pub HasPlace : Bit → Type 0
HasPlace (Latch i) = i < 64
HasPlace (Output b) = b < 64

-- the effect is one on the gate
abbrev pub acts_on : Effect → Bit → Bool
acts_on effect (Latch i) = bit effect.latches i
acts_on effect (Output b) = bit effect.outputs b

-- the list of effects says that input a matters for the gate
pub record ActsBy (effects : List Effect) (a : ℕ) (gate : Bit) : Type 0 where
  pub effect : Effect
  pub there : slice_get effects a ≡ Some effect
  pub acts : acts_on effect gate ≡ true

-- at this state two symbols that differ at the input alone give different values
pub record MattersAt (F : KissFile) (value : ℕ → List Bool → Bool) (s a : ℕ) : Type 0 where
  pub x : List Bool
  pub y : List Bool
  pub symbol : length x ≡ F.inputs
  pub differ : DifferAlone a x y
  pub values : value s x ≢ value s y

-- what matters at the state was added to the list of effects, and nothing else was
pub record AddsState (F : KissFile) (words : List ℕ) (s : ℕ) (old new : List Effect) : Type 0 where
  pub size : length new ≡ length old
  pub each : (a : ℕ) (gate : Bit) → IsBit F gate → ActsBy new a gate ↔ (ActsBy old a gate ⊎ MattersAt F (value_of F words gate) s a)
