-- The right sides of Mm pairs that are greatest strictly below one (source: Hartmanis and Stearns).
use Rattle.std.specs.Prelude.{◌⊎◌, List, ℕ}
use Rattle.kiss_file.specs.declared.file.KissFile.{KissFile}
use Rattle.partition.specs.Partition.{IsNontrivial, IsOne, IsZero, Le}
use Rattle.pair_operators.specs.Extremes.{MmPair}

-- some p makes an Mm pair with q
abbrev pub IsRightSide : KissFile → List ℕ → Type 0
IsRightSide F q = (p : List ℕ) × MmPair F p q

-- not all states are together: the partition is strictly below one
abbrev pub IsBelowOne : List ℕ → Type 0
IsBelowOne q = IsOne q → ⊥

-- a right side that is strictly below one, or zero, such that no right side is strictly between it and one
pub record IsGreatestRight (F : KissFile) (q : List ℕ) : Type 0 where
  pub right : IsRightSide F q
  pub below : IsBelowOne q ⊎ IsZero q
  pub greatest : (other : List ℕ) → IsRightSide F other → IsBelowOne other → Le q other → Le other q

-- each right side is zero or one
abbrev pub RightsAreTrivial : KissFile → Type 0
RightsAreTrivial F = (q : List ℕ) → IsRightSide F q → IsNontrivial q → ⊥
