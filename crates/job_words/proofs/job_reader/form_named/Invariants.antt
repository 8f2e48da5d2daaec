use Rattle.std.proofs.Common.{◌≡◌, drop, map}
use Rattle.job_words.specs.Job.{row_named}
use Rattle.job_words.specs.Table.{row_of}
use Rattle.job_words.proofs.job_reader.form_named.Given as goal

abbrev pub invariant-loop-form : goal.invariant-loop-form
invariant-loop-form l = row_named (map row_of (drop l.form-index l.forms)) l.word ≡ row_named (map row_of l.forms) l.word
