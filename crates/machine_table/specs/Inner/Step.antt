-- One step of a machine. Private functions need it; no public contract cites it.
use Rattle.std.specs.Prelude.{ℕ, ◌≡◌, ◌<◌, ◌^◌, length, IfSome, Option}
use Rattle.cubes.specs.Symbol.{symbol_of, lowest_bits}
use Rattle.kiss_file.specs.declared.file.KissFile.{KissFile}
use Rattle.kiss_file.specs.Machine.{next, out}
use Rattle.machine_table.specs.declared.walk.MetStep.{MetStep}

-- the next state at the symbol with that number, and the number that encodes the outputs there
pub record IsStep (F : KissFile) (s x goes word : ℕ) : Type 0 where
  pub next_state : goes ≡ next F s (symbol_of F.inputs x)
  pub state : goes < length F.states
  pub outputs : lowest_bits F.outputs word ≡ out F s (symbol_of F.inputs x)
  pub below : word < 2 ^ F.outputs

-- a step that is remembered is the one from its state at its symbol
abbrev pub IsRightStep : KissFile → Option MetStep → Type 0
IsRightStep F kept = IfSome kept (λ it. IsStep F it.state it.symbol it.step.next it.step.outputs)
