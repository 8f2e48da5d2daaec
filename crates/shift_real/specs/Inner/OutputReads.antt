-- What the gate of an output reads, from classes and from the rows of states.
use Rattle.std.specs.Prelude.{◌≡◌, ◌≢◌, ◌↔◌, ℕ, ◌<◌, ◌^◌, Contains, List, length, slice_index, bit_xor}
use Rattle.dependence.specs.declared.bit.Bit.TheVariants.{Output}
use Rattle.dependence.specs.declared.effects.Effect.{Effect}
use Rattle.dependence.specs.Effects.{ActsBy, MattersAt}
use Rattle.dependence.specs.SufficientBits.{output_value}
use Rattle.kiss_file.specs.declared.file.KissFile.{KissFile}

-- some two numbers that differ at the latch alone have different classes
pub record FlipMatters (classes : List ℕ) (latch : ℕ) : Type 0 where
  pub number : ℕ
  pub within : number < length classes
  pub apart : slice_index classes number ≢ slice_index classes (bit_xor number (2 ^ latch))

-- input a matters for output b at some state of the list that is below the given number
pub record MattersAmong (F : KissFile) (b : ℕ) (states : List ℕ) (below a : ℕ) : Type 0 where
  pub state : ℕ
  pub within : state < below
  pub among : Contains states state
  pub there : MattersAt F (output_value F b) state a

-- the effects of the inputs on the outputs, at the states of the list that are below the given number
pub record AreEffectsAfter (F : KissFile) (states : List ℕ) (below : ℕ) (effects : List Effect) : Type 0 where
  pub size : length effects ≡ F.inputs
  pub each : (b a : ℕ) → b < F.outputs → ActsBy effects a (Output b) ↔ MattersAmong F b states below a
