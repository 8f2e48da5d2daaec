-- What a network answers to a file of symbols, and why it may not answer.
use Rattle.std.specs.Prelude.{◌≡◌, ℕ, Bool, ⊤, List, Option, Some, None, length}
use Rattle.std.specs.List.{flat_map}
use Rattle.hs_io.specs.Spelling.{ended}
use Rattle.net_core.specs.declared.Network.{Network}
use Rattle.net_core.specs.Step.{NetAnswers}
use Rattle.net_sim.specs.declared.causes.SimFail.{SimFail}
use Rattle.net_sim.specs.declared.causes.SimFail.TheVariants.{BadStart, UnknownStart, BadSymbol, NoMemory}
use Rattle.net_sim.specs.BitTexts.{IsBitText, text_of_bits}
use Rattle.net_sim.specs.Starts.{IsStart, IsFirstUnknown}
use Rattle.net_sim.specs.Symbols.{IsSymbolFile, IsSymbolFault}

-- the text of answers: a line for each answer
abbrev pub answers_text : List (List Bool) → List ℕ
answers_text answers = flat_map (λ answer. ended (text_of_bits answer)) answers

-- the text is that of the network's answers to the symbols of the file, from the given start or else from its own
pub record IsRun (N : Network) (start : Option (List ℕ)) (symbols text : List ℕ) : Type 0 where
  pub state : List Bool
  pub word : List (List Bool)
  pub answers : List (List Bool)
  pub begins : IsStart N start state
  pub reads : IsSymbolFile (length N.inputs) symbols word
  pub answered : NetAnswers N state word answers
  pub is : text ≡ answers_text answers

-- the causes of the failures of a run, in the order of judgement
abbrev pub IsRunCause : Network → Option (List ℕ) → List ℕ → SimFail → Type 0
IsRunCause N start symbols BadStart = (text : List ℕ) × (start ≡ Some text) × ((state : List Bool) → IsBitText (length N.latches) text state → ⊥)
IsRunCause N start symbols (UnknownStart latch) = (start ≡ None) × IsFirstUnknown N.latches latch
IsRunCause N start symbols (BadSymbol line) = (state : List Bool) × IsStart N start state × IsSymbolFault (length N.inputs) symbols line
IsRunCause N start symbols NoMemory = ⊤

-- the failure is of the start or of the symbols, and not of memory
abbrev pub IsOfInput : SimFail → Type 0
IsOfInput NoMemory = ⊥
IsOfInput _ = ⊤
