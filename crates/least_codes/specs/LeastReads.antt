-- The least sets of bits that permit what a gate gives. A set is given by its ascending list (source: this
-- project).
use Rattle.std.specs.Prelude.{◌≡◌, ◌⊎◌, ◌↔◌, ℕ, ◌<◌, ◌≤◌, All, Bool, Contains, List, [], ◌∷◌, length}
use Rattle.std.specs.List.Sorted.{IsStrictlyIncreasing}
use Rattle.kiss_file.specs.declared.file.KissFile.{KissFile}
use Rattle.dependence.specs.SufficientBits.{InWord, PermitsValue}

-- at the first place where two lists of equal length differ, the first list has the smaller number
abbrev pub ListBefore : List ℕ → List ℕ → Type 0
ListBefore [] other = ⊥
ListBefore (a ∷ list) [] = ⊥
ListBefore (a ∷ list) (b ∷ other) = (a < b) ⊎ ((a ≡ b) × ListBefore list other)

-- candidates, ascending, that permit the value
pub record AreEnoughBits (F : KissFile) (words : List ℕ) (Candidate : ℕ → Type 0) (value : ℕ → List Bool → Bool) (reads : List ℕ) : Type 0 where
  pub ascending : IsStrictlyIncreasing reads
  pub candidates : All Candidate reads
  pub permit : PermitsValue F words (Contains reads) value

-- no fewer candidates permit it
pub record AreFewest (F : KissFile) (words : List ℕ) (Candidate : ℕ → Type 0) (value : ℕ → List Bool → Bool) (reads : List ℕ) : Type 0 where
  pub enough : AreEnoughBits F words Candidate value reads
  pub fewest : (others : List ℕ) → AreEnoughBits F words Candidate value others → length reads ≤ length others

-- among the lists of the fewest candidates, this list is the first
pub record AreLeastReads (F : KissFile) (words : List ℕ) (Candidate : ℕ → Type 0) (value : ℕ → List Bool → Bool) (reads : List ℕ) : Type 0 where
  pub fewest : AreFewest F words Candidate value reads
  pub first : (others : List ℕ) → AreEnoughBits F words Candidate value others → length others ≡ length reads → (others ≡ reads) ⊎ ListBefore reads others

-- the word has the bits of the list and no other
abbrev pub AreBitsOf : ℕ → List ℕ → Type 0
AreBitsOf set reads = (c : ℕ) → InWord set c ↔ Contains reads c

-- a set, as a word, of the least reads
pub record IsLeastReadSet (F : KissFile) (words : List ℕ) (Candidate : ℕ → Type 0) (value : ℕ → List Bool → Bool) (set : ℕ) : Type 0 where
  pub reads : List ℕ
  pub bits : AreBitsOf set reads
  pub least : AreLeastReads F words Candidate value reads
