use Rattle.std.proofs.Common.{subst}
use Rattle.answers.specs.Outcome.{IsJudged}
use Rattle.kiss_file.specs.declared.file.KissFile.{KissFile}
use Rattle.state_reduce.specs.Laws.Works.{with_its_file}
use Rattle.machine_reports.specs.Causes.{NotDefiniteRow}
use Rattle.machine_reports.specs.DefiniteText.{IsChainText}
use Rattle.machine_reports.proofs.chains.definite.Goals as goal

pub returns : goal.returns
returns c =
    subst (λ (F : KissFile). IsJudged (NotDefiniteRow c.args.reduce F) (λ text. IsChainText c.args.shown c.args.reduce F text.items) c.chain_text.result)
    c.in_ok-work.ensures.file (c.chain_text.ensures c.args.reduce (with_its_file c.args.reduce c.args.file.now c.in_ok-work.work c.in_ok-work.ensures))
