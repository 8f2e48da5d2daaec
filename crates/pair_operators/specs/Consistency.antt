-- Partitions that the outputs respect (source: Hartmanis and Stearns).
use Rattle.std.specs.Prelude.{◌≡◌, ℕ, Bool, List, length}
use Rattle.kiss_file.specs.declared.file.KissFile.{KissFile}
use Rattle.kiss_file.specs.Machine.{out}
use Rattle.partition.specs.Partition.{Together}

-- states that are together have equal outputs for each symbol
abbrev pub Consistent : KissFile → List ℕ → Type 0
Consistent F p = (s t : ℕ) (x : List Bool) → Together p s t → length x ≡ F.inputs → out F s x ≡ out F t x
