use Rattle.std.proofs.Common.{ℕ, ◌≡◌, ◌<◌, IsSome, Some, slice_get, slice_index_or}
use Rattle.kiss_file.specs.declared.file.KissRow.{KissRow}
use Rattle.state_pairs.proofs.rows.RowsByState.all_say.Given as goal

abbrev pub invariant-loop-number : goal.invariant-loop-number
invariant-loop-number g l =
    (k d : ℕ) (row : KissRow) → k < l.number-index → slice_get l.self.rows (slice_index_or l.numbers k d) ≡ Some row → IsSome (g.Q.Question.said l.question row)
