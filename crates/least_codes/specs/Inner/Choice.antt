-- Candidates that are chosen one after another, given by their ascending list.
use Rattle.std.specs.Prelude.{◌≡◌, ◌⊎◌, ◌↔◌, ℕ, ◌+◌, ◌≤◌, Contains, List, [], ◌∷◌, length}
use Rattle.dependence.specs.SufficientBits.{InWord}
use Rattle.least_codes.specs.declared.choice.Question.{Question}
use Rattle.least_codes.specs.declared.choice.Choice.{Choice}
use Rattle.least_codes.specs.Inner.StatePairs.{TellsApart}
use Rattle.least_codes.specs.LeastReads.{AreBitsOf, ListBefore}

-- numbers from `from` on, each less than the next
abbrev pub Ascend : ℕ → List ℕ → Type 0
Ascend from [] = Unit {0}
Ascend from (c ∷ rest) = (from ≤ c) × Ascend (c + 1) rest

-- `left` candidates from bit `from` on, ascending
pub record AreChosen (candidates from left : ℕ) (rest : List ℕ) : Type 0 where
  pub size : length rest ≡ left
  pub ascend : Ascend from rest
  pub each : (c : ℕ) → Contains rest c → InWord candidates c

-- the bits of a word together with those of a list
abbrev pub And : ℕ → List ℕ → ℕ → Type 0
And chosen rest c = InWord chosen c ⊎ Contains rest c

-- together with the chosen bits, these distinguish the states
abbrev pub Tell : Question → ℕ → List ℕ → Type 0
Tell question chosen rest = TellsApart question.words.now question.apart.now (And chosen rest)

-- the set has the chosen bits and the first list of candidates that distinguishes the states together with them
pub record IsFirstChoice (question : Question) (chosen from left set : ℕ) : Type 0 where
  pub rest : List ℕ
  pub of : AreChosen question.candidates from left rest
  pub joined : (c : ℕ) → InWord set c ↔ And chosen rest c
  pub tell : Tell question chosen rest
  pub first : (others : List ℕ) → AreChosen question.candidates from left others → Tell question chosen others → (others ≡ rest) ⊎ ListBefore rest others

-- no list of candidates distinguishes the states together with the chosen bits
abbrev pub HasNone : Question → (chosen from left : ℕ) → Type 0
HasNone question chosen from left = (others : List ℕ) → AreChosen question.candidates from left others → Tell question chosen others → ⊥

-- the fewest candidates that distinguish the states, and of those the first list
pub record IsLeastChoice (question : Question) (choice : Choice) : Type 0 where
  pub reads : List ℕ
  pub of : AreChosen question.candidates 0 choice.size reads
  pub bits : AreBitsOf choice.set reads
  pub tell : TellsApart question.words.now question.apart.now (Contains reads)
  pub fewest : (size : ℕ) (others : List ℕ) → AreChosen question.candidates 0 size others → TellsApart question.words.now question.apart.now (Contains others) → choice.size ≤ size
  pub first : (others : List ℕ) → AreChosen question.candidates 0 choice.size others → TellsApart question.words.now question.apart.now (Contains others) → (others ≡ reads) ⊎ ListBefore reads others
