-- What the split of the least code is (source: this project).
use Rattle.std.specs.Prelude.{◌≡◌, ℕ, All, List, Some, length, slice_get}
use Rattle.kiss_file.specs.declared.file.KissFile.{KissFile}
use Rattle.partition.specs.Partition.{blocks_of}
use Rattle.state_codes.specs.declared.split.Part.{Part}
use Rattle.state_codes.specs.declared.Codes.{Codes}
use Rattle.state_codes.specs.Agreement.{IsBitPartition}
use Rattle.state_codes.specs.Code.{IsCode, need}
use Rattle.state_codes.specs.Kinds.{IsOwnCarrier, PartsMeetInZero}
use Rattle.state_codes.specs.Split.{others}
use Rattle.least_codes.specs.LeastCode.{IsLeastCode}

-- parts of two blocks whose meet is zero, each of which reads all others
pub record IsLeastSplit (parts : List Part) : Type 0 where
  pub own : All IsOwnCarrier parts
  pub two_blocks : All (λ part. blocks_of part.partition ≡ 2) parts
  pub in_zero : PartsMeetInZero parts
  pub reads : (j : ℕ) (part : Part) → slice_get parts j ≡ Some part → part.reads ≡ others (length parts) j

-- the codes that the parts give are the least code, and the parts are the partitions of its bits, in order
pub record GiveLeastCode (F : KissFile) (parts : List Part) : Type 0 where
  pub codes : Codes
  pub given : IsCode (length F.states) parts codes
  pub least : IsLeastCode F codes.words
  pub size : codes.bits ≡ need (length F.states)
  pub count : length parts ≡ codes.bits
  pub bits : (i : ℕ) (part : Part) → slice_get parts i ≡ Some part → IsBitPartition (length F.states) codes.words i part.partition
