-- What gates read, gathered as words of bits.
use Rattle.std.specs.Prelude.{◌≡◌, ◌↔◌, ℕ, ◌<◌, All, Contains, List, Some, slice_get, slice_index}
use Rattle.dependence.specs.declared.sets.ReadSet.{ReadSet}
use Rattle.dependence.specs.SufficientBits.{InWord}
use Rattle.part_machines.specs.declared.part_inputs.ReadWords.{ReadWords}

-- the numbers of the set are those of bits of a word
pub record IsSmall (set : ReadSet) : Type 0 where
  pub inputs : All (λ a. a < 64) set.inputs
  pub latches : All (λ c. c < 64) set.latches

-- the word has those of the first bits whose owner is the part with that number
abbrev pub IsWordOfOwner : List ℕ → (j count word : ℕ) → Type 0
IsWordOfOwner owners j count word = (c : ℕ) → InWord word c ↔ ((c < count) × (slice_index owners c ≡ j))

-- one of the first sets has the property, and its number is in the word
pub record HasSetThat (sets : List ReadSet) (gates count : ℕ) (P : ReadSet → Type 0) : Type 0 where
  pub place : ℕ
  pub within : place < count
  pub gate : InWord gates place
  pub set : ReadSet
  pub there : slice_get sets place ≡ Some set
  pub has : P set

-- the words have what those of the first sets have whose numbers are in a word
pub record AreWordsOf (sets : List ReadSet) (gates count : ℕ) (read : ReadWords) : Type 0 where
  pub inputs : (a : ℕ) → InWord read.inputs a ↔ HasSetThat sets gates count (λ set. Contains set.inputs a)
  pub latches : (c : ℕ) → InWord read.latches c ↔ HasSetThat sets gates count (λ set. Contains set.latches c)
