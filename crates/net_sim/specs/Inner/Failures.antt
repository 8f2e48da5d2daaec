-- What the failures of the parts of the work say.
use Rattle.std.specs.Prelude.{◌≡◌, ℕ, Bool, ⊤, List, Option, Some, None, length}
use Rattle.hs_io.specs.declared.lines.Line.{Line}
use Rattle.net_core.specs.declared.Latch.{Latch}
use Rattle.net_core.specs.declared.Network.{Network}
use Rattle.net_sim.specs.declared.causes.SimFail.{SimFail}
use Rattle.net_sim.specs.declared.causes.SimFail.TheVariants.{BadStart, UnknownStart, BadSymbol, NoMemory}
use Rattle.net_sim.specs.BitTexts.{IsBitText}
use Rattle.net_sim.specs.Starts.{IsFirstUnknown}
use Rattle.net_sim.specs.Symbols.{IsRefusedLine, IsSymbolFault}

-- the failure names the first refused line, unless memory ran out
abbrev pub TellsSymbol : ℕ → List ℕ → SimFail → Type 0
TellsSymbol width symbols BadStart = ⊥
TellsSymbol width symbols (UnknownStart _) = ⊥
TellsSymbol width symbols (BadSymbol line) = IsSymbolFault width symbols line
TellsSymbol width symbols NoMemory = ⊤

-- the failure names this line, which is refused, unless memory ran out
abbrev pub TellsLine : ℕ → Line → SimFail → Type 0
TellsLine width line BadStart = ⊥
TellsLine width line (UnknownStart _) = ⊥
TellsLine width line (BadSymbol number) = (number ≡ line.number) × IsRefusedLine width line
TellsLine width line NoMemory = ⊤

-- the failure says why there is no start, unless memory ran out
abbrev pub TellsStart : Network → Option (List ℕ) → SimFail → Type 0
TellsStart N start BadStart = (text : List ℕ) × (start ≡ Some text) × ((state : List Bool) → IsBitText (length N.latches) text state → ⊥)
TellsStart N start (UnknownStart latch) = (start ≡ None) × IsFirstUnknown N.latches latch
TellsStart N start (BadSymbol _) = ⊥
TellsStart N start NoMemory = ⊤

-- the same for a given start
abbrev pub TellsText : ℕ → List ℕ → SimFail → Type 0
TellsText count text BadStart = (state : List Bool) → IsBitText count text state → ⊥
TellsText count text (UnknownStart _) = ⊥
TellsText count text (BadSymbol _) = ⊥
TellsText count text NoMemory = ⊤

-- the same for the starts of the latches
abbrev pub TellsUnknown : List Latch → SimFail → Type 0
TellsUnknown latches BadStart = ⊥
TellsUnknown latches (UnknownStart latch) = IsFirstUnknown latches latch
TellsUnknown latches (BadSymbol _) = ⊥
TellsUnknown latches NoMemory = ⊤
