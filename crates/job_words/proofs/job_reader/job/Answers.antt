use Rattle.job_words.proofs.Commands.{built_job}
use Rattle.job_words.proofs.job_reader.job.Goals as goal

pub returns-clause-built : goal.returns-clause-built
returns-clause-built c = built_job _ _ c.judge.result c.built_forms.ensures c.judge.ensures.job
