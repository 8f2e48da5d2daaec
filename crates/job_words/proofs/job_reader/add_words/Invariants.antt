use Rattle.std.proofs.Common.{◌≤◌, ◌-◌, length}
use Rattle.job_words.specs.Table.{row_of}
use Rattle.job_words.proofs.Reading.{IsReading}
use Rattle.job_words.proofs.job_reader.add_words.Given as goal

abbrev pub invariant-loop-i : goal.invariant-loop-i
invariant-loop-i l = record {
  reading : IsReading (row_of l.form) l.words l.i l.draft;
  within : l.i ≤ length l.words;
}

abbrev pub decreases-loop-i : goal.decreases-loop-i
decreases-loop-i l = length l.words - l.i
