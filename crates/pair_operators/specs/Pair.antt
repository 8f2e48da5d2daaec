-- Partition pairs and closed partitions (source: Hartmanis and Stearns; a closed partition has the substitution property).
use Rattle.std.specs.Prelude.{◌≡◌, ℕ, Bool, List, length}
use Rattle.kiss_file.specs.declared.file.KissFile.{KissFile}
use Rattle.kiss_file.specs.Machine.{next}
use Rattle.partition.specs.Partition.{Together}

-- states that are together in p go, for each symbol, to states that are together in q
abbrev pub Pair : KissFile → List ℕ → List ℕ → Type 0
Pair F p q = (s t : ℕ) (x : List Bool) → Together p s t → length x ≡ F.inputs → Together q (next F s x) (next F t x)

-- states that are together go, for each symbol, to states that are together
abbrev pub Closed : KissFile → List ℕ → Type 0
Closed F p = Pair F p p
