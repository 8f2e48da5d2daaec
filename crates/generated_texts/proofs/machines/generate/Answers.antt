use Rattle.std.proofs.lemmas.Result.{IfOk-weaker}
use Rattle.generated_texts.proofs.machines.generate.Goals as goal

pub returns : goal.returns
returns c = IfOk-weaker c.write.result _ _ (λ text is. (c.in_ok-file.file, c.in_ok-file.ensures.machine, is)) c.write.ensures
