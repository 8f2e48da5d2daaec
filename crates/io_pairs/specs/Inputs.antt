-- Input-state pairs (source: Hartmanis and Stearns). A symbol is given by its number.
use Rattle.std.specs.Prelude.{ℕ, ◌<◌, ◌^◌, List, length}
use Rattle.cubes.specs.Symbol.{symbol_of}
use Rattle.kiss_file.specs.declared.file.KissFile.{KissFile}
use Rattle.kiss_file.specs.Machine.{next}
use Rattle.partition.specs.Partition.{Together}
use Rattle.partition.specs.Partners.{IsGreatestWith, IsLeastPairOf, IsLeastWith, IsMmPairOf, IsPairJoinOf}
use Rattle.partition.specs.Sides.{Sides}

-- the two symbols lead, from every state, to states that are together in q
abbrev pub GoFromStates : KissFile → List ℕ → ℕ → ℕ → Type 0
GoFromStates F q x y = (s : ℕ) → s < length F.states
    → Together q (next F s (symbol_of F.inputs x)) (next F s (symbol_of F.inputs y))

-- symbols that are together in p lead, from every state, to states that are together in q
abbrev pub InPair : KissFile → List ℕ → List ℕ → Type 0
InPair F p q = (x y : ℕ) → Together p x y → GoFromStates F q x y

-- q is the least partition of the states to which the two symbols lead together from every state
abbrev pub IsInRightOf : KissFile → ℕ → ℕ → List ℕ → Type 0
IsInRightOf F x y q = IsLeastWith (length F.states) (λ r. GoFromStates F r x y) q

-- q is the least partition of the states that p makes a pair with
abbrev pub IsInLow : KissFile → List ℕ → List ℕ → Type 0
IsInLow F p q = IsLeastWith (length F.states) (InPair F p) q

-- p is the greatest partition of the symbols that makes a pair with q
abbrev pub IsInHigh : KissFile → List ℕ → List ℕ → Type 0
IsInHigh F q p = IsGreatestWith (2 ^ F.inputs) (λ left. InPair F left q) p

-- the two sides are an Mm pair of symbols and states
abbrev pub IsInMmPair : KissFile → Sides → Type 0
IsInMmPair F x = IsMmPairOf (2 ^ F.inputs) (length F.states) (InPair F) x

-- the least of these pairs, and the join of two of them
abbrev pub IsLeastInPair : KissFile → Sides → Type 0
IsLeastInPair F x = IsLeastPairOf (2 ^ F.inputs) (length F.states) (InPair F) x

abbrev pub IsInJoin : KissFile → Sides → Sides → Sides → Type 0
IsInJoin F x y z = IsPairJoinOf (2 ^ F.inputs) (InPair F) x y z
