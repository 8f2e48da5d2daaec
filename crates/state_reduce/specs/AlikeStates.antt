-- States that no word distinguishes (source: Hartmanis and Stearns, equivalent states of a machine of Mealy).
use Rattle.std.specs.Prelude.{◌≡◌, ◌<◌, ◌↔◌, ℕ, Bool, All, List, length}
use Rattle.kiss_file.specs.declared.file.KissFile.{KissFile}
use Rattle.kiss_file.specs.Machine.{answers}
use Rattle.partition.specs.Partition.{IsPartition, Together}

-- a word whose symbols have the given number of inputs
abbrev pub IsWord : ℕ → List (List Bool) → Type 0
IsWord inputs word = All (λ x. length x ≡ inputs) word

-- from both states the machine answers each word alike
abbrev pub Alike : KissFile → ℕ → ℕ → Type 0
Alike F s t = (word : List (List Bool)) → IsWord F.inputs word → answers F s word ≡ answers F t word

-- the partition of the states in which two states are together exactly where they are alike
pub record IsEquivalence (F : KissFile) (p : List ℕ) : Type 0 where
  pub lawful : IsPartition (length F.states) p
  pub together : (s t : ℕ) → s < length F.states → t < length F.states → Together p s t ↔ Alike F s t

-- no two states are alike
abbrev pub AreUnlike : KissFile → Type 0
AreUnlike F = (s t : ℕ) → s < length F.states → t < length F.states → Alike F s t → s ≡ t
