use Rattle.std.proofs.Common.{inr, refl}
use Rattle.answers.specs.declared.refusals.Refusal.TheVariants.{NoMemory}
use Rattle.answers.proofs.delivery.refuse.Goals as goal

pub returns-in-Err-clause-told : goal.returns-in-Err-clause-told
returns-in-Err-clause-told g c = (NoMemory, inr refl, c.answer-in-Err.ensures.answer, c.answer-in-Err.ensures.line)
