use Rattle.std.proofs.Common.{ℕ, length}
use Rattle.hs_io.specs.Lines.{lines_of}
use Rattle.kiss2.specs.Inner.ReaderPlace.{HasCome}
use Rattle.kiss2.proofs.reader.judge_lines.Given as goal

abbrev pub invariant-loop : goal.invariant-loop
invariant-loop l = (count : ℕ) × HasCome (lines_of l.bytes) l.kept.said l.kept.rows.items l.reader count

abbrev pub decreases-loop : goal.decreases-loop
decreases-loop l = length l.reader
