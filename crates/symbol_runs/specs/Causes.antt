-- The refusals that symbols, and a start, call for.
use Rattle.std.specs.Prelude.{◌≡◌, ℕ, Bool, List, [], ◌∷◌, Option, Some, None, length}
use Rattle.answers.specs.declared.refusals.Refusal.TheVariants.{BadStart, BadSymbol, UnknownStart}
use Rattle.answers.specs.Cause.{Cause, FirstOf}
use Rattle.net_core.specs.declared.Network.{Network}
use Rattle.net_sim.specs.BitTexts.{IsBitText}
use Rattle.net_sim.specs.Starts.{IsFirstUnknown}
use Rattle.net_sim.specs.Symbols.{IsSymbolFault}

-- a line of the symbols is not a symbol of `width` bits: the number of the first such line
abbrev pub BadSymbolRow : ℕ → List ℕ → Cause
BadSymbolRow width symbols refusal = (number : ℕ) × (refusal ≡ BadSymbol number) × IsSymbolFault width symbols number

-- the given text is not a text of a bit for each latch
abbrev pub BadStartRow : Network → Option (List ℕ) → Cause
BadStartRow N start refusal =
    (text : List ℕ) × (start ≡ Some text) × (refusal ≡ BadStart) × ((state : List Bool) → IsBitText (length N.latches) text state → ⊥)

-- no text is given, and the start of a latch is not known: the first such latch
abbrev pub UnknownStartRow : Network → Option (List ℕ) → Cause
UnknownStartRow N start refusal =
    (latch : List ℕ) × (start ≡ None) × (refusal ≡ UnknownStart latch) × IsFirstUnknown N.latches latch

-- the network has no start: no latch values to begin with
abbrev pub NoStart : Network → Option (List ℕ) → Cause
NoStart N start = FirstOf (BadStartRow N start ∷ UnknownStartRow N start ∷ [])
