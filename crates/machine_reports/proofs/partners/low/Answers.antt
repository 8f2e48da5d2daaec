use Rattle.std.proofs.Common.{ℕ, sym, ap, ◌∙◌, subst}
use Rattle.answers.specs.Cause.{CallsForNone}
use Rattle.kiss_file.specs.declared.file.KissFile.{KissFile}
use Rattle.operands.specs.PartFaults.{BadPart}
use Rattle.operands.specs.PartTexts.{IsTextOfPartition}
use Rattle.machine_reports.specs.StateTexts.{state_line}
use Rattle.machine_reports.proofs.partners.low.Goals as goal

pub returns : goal.returns
returns c = (
  subst (λ (n : ℕ). CallsForNone (BadPart n c.args.part.now)) c.states.ensures.count c.in_ok-given.ensures.0,
  (c.in_ok-given.given, c.in_ok-least.least, subst (λ (n : ℕ). IsTextOfPartition n c.args.part.now c.in_ok-given.given) c.states.ensures.count c.in_ok-given.ensures.1, c.in_ok-least.ensures, c.in_ok-line_of.ensures ∙ ap (λ (F : KissFile). state_line c.args.shown F.states c.in_ok-least.least) (sym c.requires)),
)
