-- What a feedback split is (source: Hartmanis and Stearns).
use Rattle.std.specs.Prelude.{◌≡◌, List, [], ◌∷◌}
use Rattle.kiss_file.specs.declared.file.KissFile.{KissFile}
use Rattle.partition.specs.Partition.{IsNontrivial, Le, blocks_of}
use Rattle.partition.specs.NestedBlocks.{IsLargestSize}
use Rattle.mm_lattice.specs.Top.{IsRightSide}
use Rattle.state_codes.specs.declared.split.Part.{Part}
use Rattle.state_codes.specs.Kinds.{PartsMeetInZero}
use Rattle.feedback_split.specs.Carrier.{Suffices}

-- The first part is a right side of an Mm pair. The second separates the states of each block of the first,
-- with no more blocks than that needs. Each part reads the carrier of the other part, which suffices for it.
pub record IsFeedback (F : KissFile) (parts : List Part) : Type 0 where
  pub first : Part
  pub second : Part
  pub two : parts ≡ first ∷ second ∷ []
  pub right : IsRightSide F first.partition
  pub nontrivial : IsNontrivial first.partition
  pub in_zero : PartsMeetInZero parts
  pub blocks : IsLargestSize first.partition (blocks_of second.partition)
  pub first_above : Le first.partition first.carrier
  pub second_above : Le second.partition second.carrier
  pub second_suffices : Suffices F first.partition second.carrier
  pub first_suffices : Suffices F second.partition first.carrier
  pub first_reads : first.reads ≡ 1 ∷ []
  pub second_reads : second.reads ≡ 0 ∷ []
