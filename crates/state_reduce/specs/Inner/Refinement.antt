-- The rounds that separate states. Private functions need these definitions; no public contract cites them.
use Rattle.std.specs.Prelude.{◌<◌, ℕ, List, length}
use Rattle.kiss_file.specs.declared.file.KissFile.{KissFile}
use Rattle.machine_table.specs.Pairs.{AgreeAt, AtEachSymbol, GoInto}
use Rattle.partition.specs.Partition.{IsPartition, Together}
use Rattle.state_reduce.specs.AlikeStates.{Alike}

-- the outputs of the states are equal at each symbol
abbrev pub AgreeAlways : KissFile → ℕ → ℕ → Type 0
AgreeAlways F s t = AtEachSymbol F.inputs (AgreeAt F s t)

-- the states are together and, at each symbol, go to states that are together
abbrev pub StayTogether : KissFile → List ℕ → ℕ → ℕ → Type 0
StayTogether F p s t = Together p s t × AtEachSymbol F.inputs (GoInto (Together p) F s t)

-- states that are together agree in their outputs, and alike states are still together
pub record IsRound (F : KissFile) (p : List ℕ) : Type 0 where
  pub lawful : IsPartition (length F.states) p
  pub agree : (s t : ℕ) → Together p s t → AgreeAlways F s t
  pub alike : (s t : ℕ) → s < length F.states → t < length F.states → Alike F s t → Together p s t
