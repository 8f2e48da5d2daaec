use Rattle.std.proofs.Common.{sym, subst}
use Rattle.blif_in.specs.Inner.Standing.{IsJudged}
use Rattle.blif_in.specs.Inner.LineStatements.{said_by}
use Rattle.blif_in.proofs.standing.Standing.after.Goals as goal

pub returns-in-Model-clause-judged : goal.returns-in-Model-clause-judged
returns-in-Model-clause-judged c = subst (λ statement. IsJudged c.args.self.now (said_by statement) c.after_model.result) (sym c.in-Model.is) c.after_model.ensures.judged

pub returns-in-Inputs-clause-judged : goal.returns-in-Inputs-clause-judged
returns-in-Inputs-clause-judged c = subst (λ statement. IsJudged c.args.self.now (said_by statement) c.after_inputs.result) (sym c.in-Inputs.is) c.after_inputs.ensures.judged

pub returns-in-Outputs-clause-judged : goal.returns-in-Outputs-clause-judged
returns-in-Outputs-clause-judged c = subst (λ statement. IsJudged c.args.self.now (said_by statement) c.after_outputs.result) (sym c.in-Outputs.is) c.after_outputs.ensures.judged

pub returns-in-Clock-clause-judged : goal.returns-in-Clock-clause-judged
returns-in-Clock-clause-judged c = subst (λ statement. IsJudged c.args.self.now (said_by statement) c.after_clock.result) (sym c.in-Clock.is) c.after_clock.ensures.judged

pub returns-in-Latch-clause-judged : goal.returns-in-Latch-clause-judged
returns-in-Latch-clause-judged c = subst (λ statement. IsJudged c.args.self.now (said_by statement) c.after_latch.result) (sym c.in-Latch.is) c.after_latch.ensures.judged

pub returns-in-Names-clause-judged : goal.returns-in-Names-clause-judged
returns-in-Names-clause-judged c = subst (λ statement. IsJudged c.args.self.now (said_by statement) c.after_names.result) (sym c.in-Names.is) c.after_names.ensures.judged

pub returns-in-Row-clause-judged : goal.returns-in-Row-clause-judged
returns-in-Row-clause-judged c = subst (λ statement. IsJudged c.args.self.now (said_by statement) c.after_row.result) (sym c.in-Row.is) c.after_row.ensures.judged
