-- The two parts of a feedback split, as they are made.
use Rattle.std.specs.Prelude.{◌≡◌, ℕ, List, [], ◌∷◌}
use Rattle.kiss_file.specs.declared.file.KissFile.{KissFile}
use Rattle.partition.specs.Partition.{blocks_of}
use Rattle.partition.specs.NestedBlocks.{IsComplement, IsLargestSize}
use Rattle.state_codes.specs.declared.split.Part.{Part}
use Rattle.feedback_split.specs.Carrier.{IsCarrierGrowth, IsGreatestCarrier}

-- the part that has this partition and this carrier, and reads the part with the number other
abbrev pub part_reading : List ℕ → List ℕ → ℕ → Part
part_reading partition carrier other = record { partition = partition; carrier = carrier; reads = other ∷ [] }

-- a partition and its complement, with their carriers, each of which reads the other part
pub record AreHalves (F : KissFile) (first : List ℕ) (parts : List Part) : Type 0 where
  pub second : List ℕ
  pub complement : IsComplement first second
  pub blocks : IsLargestSize first (blocks_of second)
  pub first_carrier : List ℕ
  pub first_grown : IsCarrierGrowth F second first first_carrier
  pub first_greatest : IsGreatestCarrier F second first first_carrier
  pub second_carrier : List ℕ
  pub second_grown : IsCarrierGrowth F first second second_carrier
  pub second_greatest : IsGreatestCarrier F first second second_carrier
  pub two : parts ≡ part_reading first first_carrier 1 ∷ part_reading second second_carrier 0 ∷ []
