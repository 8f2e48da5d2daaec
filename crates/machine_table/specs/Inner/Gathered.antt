-- What rows that hold a symbol give there, one after another.
use Rattle.std.specs.Prelude.{ℕ, ◌≡◌, ◌<◌, IfSome, false, length, true}
use Rattle.cubes.specs.Symbol.{bit, symbol_of}
use Rattle.kiss_file.specs.declared.file.KissFile.{KissFile}
use Rattle.kiss_file.specs.Machine.{next, output_bit}
use Rattle.machine_table.specs.declared.walk.Gathered.{Gathered}

-- some outputs are known and stand in the word, which has 0 at the others
pub record IsGathered (F : KissFile) (s x known word : ℕ) : Type 0 where
  pub given : (b : ℕ) → bit known b ≡ true → bit word b ≡ output_bit F s (symbol_of F.inputs x) b
  pub rest : (b : ℕ) → bit known b ≡ false → bit word b ≡ false
  pub within : (b : ℕ) → bit known b ≡ true → b < F.outputs

-- the next state, if it is known, and the outputs that are known are right
pub record ArePartsOf (F : KissFile) (s x : ℕ) (so_far : Gathered) : Type 0 where
  pub next_state : IfSome so_far.next (λ t. (t ≡ next F s (symbol_of F.inputs x)) × (t < length F.states))
  pub outputs : IsGathered F s x so_far.given so_far.word
