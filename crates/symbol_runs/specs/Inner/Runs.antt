-- Why a network gives no text.
use Rattle.std.specs.Prelude.{ℕ, List, [], ◌∷◌, Option, length}
use Rattle.answers.specs.Cause.{Cause, FirstOf}
use Rattle.net_core.specs.declared.Network.{Network}
use Rattle.symbol_runs.specs.Causes.{BadStartRow, BadSymbolRow, UnknownStartRow}

-- the network has no start, or a line is not a symbol
abbrev pub NoRun : Network → Option (List ℕ) → List ℕ → Cause
NoRun N start symbols = FirstOf (BadStartRow N start ∷ UnknownStartRow N start ∷ BadSymbolRow (length N.inputs) symbols ∷ [])
