-- A machine never leaves its states.
use Rattle.std.specs.Prelude.{◌≡◌, ℕ, ◌<◌, Bool, List, length}
use Rattle.kiss_file.specs.declared.file.KissFile.{KissFile}
use Rattle.kiss_file.specs.Machine.{next}

-- at each symbol the next state of a state is one of the states
abbrev pub NeverLeaves : KissFile → Type 0
NeverLeaves F = (s : ℕ) (x : List Bool) → s < length F.states → length x ≡ F.inputs → next F s x < length F.states
