-- Each turn so far took at least one byte, and there is still room below the limit.
use Rattle.std.proofs.Common.{◌≤◌, vec_len}
use Rattle.hs_io.proofs.reader.load_from.Given as goal

abbrev pub invariant-loop : goal.invariant-loop
invariant-loop g l = (l.counter ≤ vec_len l.into) × (vec_len l.into ≤ l.limit)
