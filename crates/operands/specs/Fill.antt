-- The fill of a job.
use Rattle.std.specs.Prelude.{if◌then◌else◌}
use Rattle.kiss_file.specs.declared.fill.Fill.{Fill}
use Rattle.kiss_file.specs.declared.fill.Fill.TheVariants.{Refuse, Hold}
use Rattle.job_words.specs.declared.jobs.Job.{Job}

-- open entries are filled where the words ask for it, and are refused otherwise
abbrev pub fill_of : Job → Fill
fill_of job = if job.hold then Hold else Refuse
