-- The outputs that occur, and state-output pairs (source: Hartmanis and Stearns).
use Rattle.std.specs.Prelude.{◌≡◌, ℕ, zero, suc, ◌+◌, ◌<◌, ◌≤◌, ◌^◌, ◌==◌, not, if◌then◌else◌, Bool, List, [], ◌∷◌, filter, length, map}
use Rattle.std.specs.List.{flat_map, position_or_len, range_with_len}
use Rattle.cubes.specs.Symbol.{symbol_of}
use Rattle.kiss_file.specs.declared.file.KissFile.{KissFile}
use Rattle.kiss_file.specs.Machine.{output_bit}
use Rattle.partition.specs.Partition.{Together}
use Rattle.partition.specs.Partners.{IsGreatestWith, IsLeastPairOf, IsLeastWith, IsMmPairOf, IsPairJoinOf}
use Rattle.partition.specs.Sides.{Sides}

-- the number whose bits below a place are given, bit b at 2 ^ b
abbrev pub word_of : (ℕ → Bool) → ℕ → ℕ
word_of bits zero = 0
word_of bits (suc b) = word_of bits b + (if bits b then 2 ^ b else 0)

-- the output of a state at the symbol with the number x, as a number
abbrev pub output_word : KissFile → ℕ → ℕ → ℕ
output_word F s x = word_of (output_bit F s (symbol_of F.inputs x)) F.outputs

-- the outputs of a state at all symbols in order
abbrev pub outputs_at : KissFile → ℕ → List ℕ
outputs_at F s = map (output_word F s) (range_with_len 0 (2 ^ F.inputs))

-- the outputs of all states, by state and then by symbol
abbrev pub all_outputs : KissFile → List ℕ
all_outputs F = flat_map (outputs_at F) (range_with_len 0 (length F.states))

-- each value once, at the place where it comes first
abbrev pub first_appearances : List ℕ → List ℕ
first_appearances [] = []
first_appearances (x ∷ xs) = x ∷ filter (λ y. not (y == x)) (first_appearances xs)

-- the outputs that occur, in the order in which they come first
abbrev pub occurring : KissFile → List ℕ
occurring F = first_appearances (all_outputs F)

-- the list has the outputs that occur, and there are at most 256 of them
pub record AreOutputs (F : KissFile) (outs : List ℕ) : Type 0 where
  pub same : outs ≡ occurring F
  pub few : length outs ≤ 256

-- the number of the output of a state at a symbol, among those that occur
abbrev pub output_number : KissFile → ℕ → ℕ → ℕ
output_number F s x = position_or_len (λ word. word == output_word F s x) (occurring F)

-- the two states have, at every symbol, outputs whose numbers are together in q
abbrev pub GoAtSymbols : KissFile → List ℕ → ℕ → ℕ → Type 0
GoAtSymbols F q s t = (x : ℕ) → x < 2 ^ F.inputs → Together q (output_number F s x) (output_number F t x)

-- states that are together in p have, at every symbol, outputs whose numbers are together in q
abbrev pub OutPair : KissFile → List ℕ → List ℕ → Type 0
OutPair F p q = (s t : ℕ) → Together p s t → GoAtSymbols F q s t

-- q is the least partition of the outputs in which those of the two states are together at every symbol
abbrev pub IsOutRightOf : KissFile → ℕ → ℕ → List ℕ → Type 0
IsOutRightOf F s t q = IsLeastWith (length (occurring F)) (λ r. GoAtSymbols F r s t) q

-- q is the least partition of the outputs that p makes a pair with
abbrev pub IsOutLow : KissFile → List ℕ → List ℕ → Type 0
IsOutLow F p q = IsLeastWith (length (occurring F)) (OutPair F p) q

-- p is the greatest partition of the states that makes a pair with q
abbrev pub IsOutHigh : KissFile → List ℕ → List ℕ → Type 0
IsOutHigh F q p = IsGreatestWith (length F.states) (λ left. OutPair F left q) p

-- the two sides are an Mm pair of states and outputs
abbrev pub IsOutMmPair : KissFile → Sides → Type 0
IsOutMmPair F x = IsMmPairOf (length F.states) (length (occurring F)) (OutPair F) x

-- the least of these pairs, and the join of two of them
abbrev pub IsLeastOutPair : KissFile → Sides → Type 0
IsLeastOutPair F x = IsLeastPairOf (length F.states) (length (occurring F)) (OutPair F) x

abbrev pub IsOutJoin : KissFile → Sides → Sides → Sides → Type 0
IsOutJoin F x y z = IsPairJoinOf (length F.states) (OutPair F) x y z
