-- The least numbers of bits that the latches of a code can read (source: this project).
use Rattle.std.specs.Prelude.{◌≡◌, ℕ, ◌<◌, List, length, slice_index, sum}
use Rattle.kiss_file.specs.declared.file.KissFile.{KissFile}
use Rattle.dependence.specs.SufficientBits.{next_value}
use Rattle.least_codes.specs.LeastReads.{AreFewest}

-- cost is the least number of the bits that the gate of latch i can read
pub record IsLatchCost (F : KissFile) (words : List ℕ) (bits i cost : ℕ) : Type 0 where
  pub reads : List ℕ
  pub fewest : AreFewest F words (λ c. c < bits) (next_value F words i) reads
  pub size : length reads ≡ cost

-- the cost of a code of the given number of bits: the sum over its latches
pub record IsCost (F : KissFile) (words : List ℕ) (bits cost : ℕ) : Type 0 where
  pub costs : List ℕ
  pub count : length costs ≡ bits
  pub each : (i : ℕ) → i < bits → IsLatchCost F words bits i (slice_index costs i)
  pub total : sum costs ≡ cost
