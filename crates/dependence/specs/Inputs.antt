-- Where an input matters for what a gate gives.
use Rattle.std.specs.Prelude.{◌≡◌, ◌≢◌, ℕ, ◌<◌, Bool, List, length, slice_get}
use Rattle.kiss_file.specs.declared.file.KissFile.{KissFile}

-- two symbols of equal length differ at input a and nowhere else
pub record DifferAlone (a : ℕ) (x y : List Bool) : Type 0 where
  pub lengths : length x ≡ length y
  pub there : slice_get x a ≢ slice_get y a
  pub elsewhere : (c : ℕ) → c ≢ a → slice_get x c ≡ slice_get y c

-- at some state, two symbols that differ at the input alone give different values
pub record Matters (F : KissFile) (value : ℕ → List Bool → Bool) (a : ℕ) : Type 0 where
  pub s : ℕ
  pub x : List Bool
  pub y : List Bool
  pub state : s < length F.states
  pub symbol : length x ≡ F.inputs
  pub differ : DifferAlone a x y
  pub values : value s x ≢ value s y
