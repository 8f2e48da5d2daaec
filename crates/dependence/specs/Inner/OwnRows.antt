-- The numbers of the rows of a state in order. Private functions need it; no public contract cites it.
use Rattle.std.specs.Prelude.{ℕ, ◌≡◌, ◌<◌, All, Contains, List, Some, length, slice_get}
use Rattle.std.specs.List.Sorted.{IsStrictlyIncreasing}
use Rattle.kiss_file.specs.declared.file.KissFile.{KissFile}
use Rattle.kiss_file.specs.declared.file.KissRow.{KissRow}
use Rattle.state_rows.specs.Places.{IsNumberOf}

-- the numbers of the rows of the state, ascending
pub record AreOwnNumbers (F : KissFile) (s : ℕ) (numbers : List ℕ) : Type 0 where
  pub ascend : IsStrictlyIncreasing numbers
  pub inside : All (λ i. i < length F.rows) numbers
  pub own : (i : ℕ) → Contains numbers i → IsNumberOf F s i
  pub each : (i : ℕ) (row : KissRow) → slice_get F.rows i ≡ Some row → row.from ≡ s → Contains numbers i
