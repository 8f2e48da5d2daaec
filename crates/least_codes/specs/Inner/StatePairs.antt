-- Pairs of states, and those that a set of bits has to distinguish.
use Rattle.std.specs.Prelude.{◌⊎◌, ℕ, ◌+◌, ◌<◌, All, Bool, Contains, List, length}
use Rattle.kiss_file.specs.declared.file.KissFile.{KissFile}
use Rattle.dependence.specs.Bit.{GiveTheSame}
use Rattle.dependence.specs.SufficientBits.{AgreeOn}
use Rattle.least_codes.specs.declared.two_states.TwoStates.{TwoStates}

-- two of n states, the lower one first
abbrev pub IsPair : ℕ → TwoStates → Type 0
IsPair n pair = (pair.s < pair.t) × (pair.t < n)

-- all pairs of n states
pub record ArePairs (pairs : List TwoStates) (n : ℕ) : Type 0 where
  pub lawful : All (IsPair n) pairs
  pub each : (s t : ℕ) → s < t → t < n → Contains pairs (record { s = s; t = t })

-- the value is not the same at two states
abbrev pub Differ : KissFile → (ℕ → List Bool → Bool) → TwoStates → Type 0
Differ F value pair = GiveTheSame F value pair.s pair.t → ⊥

-- all pairs of states whose values differ
pub record AreToldApart (F : KissFile) (value : ℕ → List Bool → Bool) (apart : List TwoStates) : Type 0 where
  pub lawful : All (IsPair (length F.states)) apart
  pub differ : All (Differ F value) apart
  pub each : (s t : ℕ) → s < t → t < length F.states → Contains apart (record { s = s; t = t }) ⊎ GiveTheSame F value s t

-- for no pair of the list do the codes of its two states agree on the set
abbrev pub TellsApart : List ℕ → List TwoStates → (ℕ → Type 0) → Type 0
TellsApart words apart R = All (λ pair. AgreeOn words R pair.s pair.t → ⊥) apart

-- all pairs of states below t, and the pairs of t and the states below s
pub record ArePairsUpTo (pairs : List TwoStates) (t s : ℕ) : Type 0 where
  pub lawful : All (IsPair (t + 1)) pairs
  pub each : (u v : ℕ) → u < v → v < t → Contains pairs (record { s = u; t = v })
  pub last : (u : ℕ) → u < s → Contains pairs (record { s = u; t = t })

-- those of the given pairs whose values differ
pub record AreApartOf (F : KissFile) (value : ℕ → List Bool → Bool) (pairs apart : List TwoStates) : Type 0 where
  pub lawful : All (IsPair (length F.states)) apart
  pub differ : All (Differ F value) apart
  pub each : (pair : TwoStates) → Contains pairs pair → Contains apart pair ⊎ GiveTheSame F value pair.s pair.t
