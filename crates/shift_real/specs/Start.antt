-- What the latches of the register start at.
use Rattle.std.specs.Prelude.{◌≡◌, ℕ, ◌*◌, ◌^◌, ◌<◌, ⊤, Bool, List}
use Rattle.cubes.specs.Symbol.{lowest_bits}
use Rattle.kiss_file.specs.declared.file.KissFile.{KissFile}
use Rattle.shift_real.specs.declared.starts.RegisterFail.{RegisterFail}
use Rattle.shift_real.specs.declared.starts.RegisterFail.TheVariants.{NotReached, NoMemory}
use Rattle.shift_real.specs.DefiniteMachine.{IsOrder}
use Rattle.shift_real.specs.Register.{IsNotReached, IsStartContent, latch_values}

-- the bits of the number are the latch values of the start content, latch i at 2 ^ i
pub record WritesStart (F : KissFile) (k number : ℕ) : Type 0 where
  pub word : List (List Bool)
  pub is_start : IsStartContent F k word
  pub latches : lowest_bits (k * F.inputs) number ≡ latch_values word
  pub no_more : number < 2 ^ (k * F.inputs)

-- why a definite machine has no register
abbrev pub IsRegisterCause : KissFile → RegisterFail → Type 0
IsRegisterCause F NotReached = (k : ℕ) → IsOrder F k → IsNotReached F k
IsRegisterCause F NoMemory = ⊤
