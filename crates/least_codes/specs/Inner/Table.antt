-- Where symbols lead two states.
use Rattle.std.specs.Prelude.{◌≡◌, ◌↔◌, ◌⊎◌, ℕ, ◌<◌, All, Contains, List, length}
use Rattle.kiss_file.specs.declared.file.KissFile.{KissFile}
use Rattle.machine_table.specs.Pieces.{IsImage}
use Rattle.machine_table.specs.Pairs.{HaveOneBit}
use Rattle.least_codes.specs.declared.two_states.TwoStates.{TwoStates}
use Rattle.least_codes.specs.declared.table.Images.{Images}
use Rattle.least_codes.specs.Inner.StatePairs.{IsPair}

-- the pair is of two of n states, and so are its images
pub record IsInside (n : ℕ) (row : Images) : Type 0 where
  pub pair : IsPair n row.pair
  pub images : All (λ image. (image.0 < n) × (image.1 < n)) row.images.items

-- the images are the pairs of states that some symbol leads the two states to
pub record IsRow (F : KissFile) (row : Images) : Type 0 where
  pub inside : IsInside (length F.states) row
  pub images : (u v : ℕ) → Contains row.images.items (u, v) ↔ IsImage F row.pair.s row.pair.t u v

-- the table has a row of these two states
pub record HasRow (table : List Images) (pair : TwoStates) : Type 0 where
  pub row : Images
  pub listed : Contains table row
  pub of : row.pair ≡ pair

-- the table has rows of these pairs, each with the images that the machine has
pub record IsTableOf (F : KissFile) (pairs : List TwoStates) (table : List Images) : Type 0 where
  pub rows : All (IsRow F) table
  pub each : (pair : TwoStates) → Contains pairs pair → HasRow table pair

-- the table has the rows of all pairs of states
pub record IsImageTable (F : KissFile) (table : List Images) : Type 0 where
  pub rows : All (IsRow F) table
  pub each : (s t : ℕ) → s < t → t < length F.states → HasRow table (record { s = s; t = t })

-- the two words of each image have the same bit i
abbrev pub KeepsBit : List ℕ → ℕ → Images → Type 0
KeepsBit words i row = All (λ image. HaveOneBit words i image.0 image.1) row.images.items

-- the pair is that of a row with an image whose words differ at bit i
pub record IsSplitBy (table : List Images) (words : List ℕ) (i : ℕ) (pair : TwoStates) : Type 0 where
  pub row : Images
  pub listed : Contains table row
  pub of : row.pair ≡ pair
  pub differ : KeepsBit words i row → ⊥

-- the pairs of all rows with an image whose words differ at bit i
pub record AreApartIn (table : List Images) (words : List ℕ) (i : ℕ) (apart : List TwoStates) : Type 0 where
  pub split : All (IsSplitBy table words i) apart
  pub each : (row : Images) → Contains table row → Contains apart row.pair ⊎ KeepsBit words i row
