-- Which feedback split is given. It is defined by steps, which choose one of several right splits (source: this
-- project).
use Rattle.std.specs.Prelude.{◌≡◌, ℕ, List, [], ◌∷◌, length, map}
use Rattle.kiss_file.specs.declared.file.KissFile.{KissFile}
use Rattle.partition.specs.Partition.{zero_of}
use Rattle.partition.specs.NestedBlocks.{IsComplement}
use Rattle.pair_operators.specs.Growth.{IsGrowth}
use Rattle.mm_lattice.specs.Generators.{IsRightOf}
use Rattle.mm_lattice.specs.Top.{IsBelowOne}
use Rattle.state_codes.specs.declared.split.Part.{Part}
use Rattle.feedback_split.specs.Carrier.{IsCarrierGrowth}

-- p is the growth of zero strictly below one, over m of the partitions that hold two states together
abbrev pub IsRightGrowth : KissFile → List ℕ → Type 0
IsRightGrowth F p = IsGrowth (IsRightOf F) IsBelowOne (length F.states) (zero_of (length F.states)) p

-- The partition that grows strictly below one, and its complement. The carrier of each part is the growth of
-- that part, as far as it suffices for the other part.
pub record IsFeedbackChoice (F : KissFile) (parts : List Part) : Type 0 where
  pub first : List ℕ
  pub grown : IsRightGrowth F first
  pub second : List ℕ
  pub complement : IsComplement first second
  pub partitions : map (λ part. part.partition) parts ≡ first ∷ second ∷ []
  pub first_carrier : List ℕ
  pub first_grown : IsCarrierGrowth F second first first_carrier
  pub second_carrier : List ℕ
  pub second_grown : IsCarrierGrowth F first second second_carrier
  pub carriers : map (λ part. part.carrier) parts ≡ first_carrier ∷ second_carrier ∷ []
