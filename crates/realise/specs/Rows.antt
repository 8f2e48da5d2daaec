-- What a gate reads at a state and a symbol, and where it gives a bit.
use Rattle.std.specs.Prelude.{◌≡◌, ℕ, ◌<◌, ◌++◌, Bool, List, length, map, slice_index}
use Rattle.cubes.specs.Symbol.{bit}
use Rattle.dependence.specs.declared.sets.ReadSet.{ReadSet}
use Rattle.gate_rows.specs.Columns.{input_of}
use Rattle.kiss_file.specs.declared.file.KissFile.{KissFile}

-- what a gate reads at a state and a symbol: the read inputs in order, then the read bits of the state's code
abbrev pub read_values : List ℕ → ReadSet → ℕ → List Bool → List Bool
read_values words set s x = map (input_of x) set.inputs ++ map (bit (slice_index words s)) set.latches

-- these values are read at some state and symbol that give the bit
pub record GivesAt (F : KissFile) (words : List ℕ) (set : ReadSet) (value : ℕ → List Bool → Bool) (given : Bool) (read : List Bool) : Type 0 where
  pub s : ℕ
  pub x : List Bool
  pub state : s < length F.states
  pub symbol : length x ≡ F.inputs
  pub read_there : read ≡ read_values words set s x
  pub gives : value s x ≡ given
