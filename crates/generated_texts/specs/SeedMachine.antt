-- The machine of a seed and of the sizes a, b and k: its factors have a and b states, and it has k inputs.
use Rattle.std.specs.Prelude.{ℕ}
use Rattle.kiss_file.specs.declared.file.KissFile.{KissFile}
use Rattle.machine_gen.specs.WordMachine.{IsMachineOf}
use Rattle.machine_gen.specs.Words.{word}

-- F is the machine of the numbers
abbrev pub IsGenerated : ℕ → ℕ → ℕ → ℕ → KissFile → Type 0
IsGenerated seed a b k F = IsMachineOf (word seed) a b k F

-- the machine of the numbers has a property
abbrev pub OfGenerated : ℕ → ℕ → ℕ → ℕ → (KissFile → Type 0) → Type 0
OfGenerated seed a b k P = (F : KissFile) × IsGenerated seed a b k F × P F
