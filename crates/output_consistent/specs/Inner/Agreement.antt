-- For private functions and proofs alone: states that agree in an output, by the numbers of the symbols.
use Rattle.std.specs.Prelude.{ℕ}
use Rattle.kiss_file.specs.declared.file.KissFile.{KissFile}
use Rattle.machine_table.specs.Pairs.{AgreeInBit, AtEachSymbol}

-- the output with the given number is equal at each symbol
abbrev pub AgreeInEach : KissFile → (bit s t : ℕ) → Type 0
AgreeInEach F bit s t = AtEachSymbol F.inputs (AgreeInBit bit F s t)
