-- Two states whose next states are together.
use Rattle.std.specs.Prelude.{ℕ, List}
use Rattle.kiss_file.specs.declared.file.KissFile.{KissFile}
use Rattle.machine_table.specs.Pairs.{AtEachSymbol, GoInto}
use Rattle.partition.specs.Partition.{Together}

-- the two states go, at each symbol, to states that are together in q
abbrev pub Goes : KissFile → List ℕ → (s t : ℕ) → Type 0
Goes F q s t = AtEachSymbol F.inputs (GoInto (Together q) F s t)
