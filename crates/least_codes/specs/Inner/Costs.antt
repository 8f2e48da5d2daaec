-- The costs of the first latches.
use Rattle.std.specs.Prelude.{◌≡◌, ℕ, ◌<◌, List, length, slice_index, sum}
use Rattle.kiss_file.specs.declared.file.KissFile.{KissFile}
use Rattle.least_codes.specs.Cost.{IsLatchCost}

-- the costs of the latches before i, and their sum
pub record AreCosts (F : KissFile) (words : List ℕ) (bits i cost : ℕ) : Type 0 where
  pub costs : List ℕ
  pub count : length costs ≡ i
  pub each : (k : ℕ) → k < i → IsLatchCost F words bits k (slice_index costs k)
  pub total : sum costs ≡ cost
