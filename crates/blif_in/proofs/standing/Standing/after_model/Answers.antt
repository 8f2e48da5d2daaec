use Rattle.std.proofs.Common.{refl, sym, ◌∙◌}
use Rattle.net_core.specs.Statements.{Model}
use Rattle.blif_in.proofs.Forms.{no_gate, none_where}
use Rattle.blif_in.proofs.Judged.{first_here, first_later, not_too_many, too_many, where_some}
use Rattle.blif_in.proofs.standing.Standing.after_model.Goals as goal

pub returns-then-self-clause-judged : goal.returns-then-self-clause-judged
returns-then-self-clause-judged c earlier s = first_here _ _ _ (where_some _ _ (sym s.model ∙ c.if-self.true))

pub returns-then-names-gt1-clause-judged : goal.returns-then-names-gt1-clause-judged
returns-then-names-gt1-clause-judged c earlier s = first_later _ _ _ (none_where _ _ (sym s.model ∙ c.if-self.false)) (first_here _ _ _ (where_some _ _ (too_many _ _ c.if-names-gt1.true)))

pub returns-clause-judged : goal.returns-clause-judged
returns-clause-judged c earlier s = (
  first_later _ _ _ (none_where _ _ (sym s.model ∙ c.if-self.false)) (first_later _ _ _ (none_where _ _ (not_too_many _ _ c.if-names-gt1.false)) refl),
  record {
    begun = refl;
    model = refl;
    clock_word = s.clock_word;
    clock = s.clock;
    gate = refl;
    inputs = s.inputs;
    outputs = s.outputs;
    latches = s.latches;
    gates = s.gates ∙ sym (no_gate (Model c.args.names.now) earlier refl);
  },
)
