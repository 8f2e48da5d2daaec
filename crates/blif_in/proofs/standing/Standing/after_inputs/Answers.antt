use Rattle.std.proofs.Common.{refl, sym, ◌∙◌}
use Rattle.std.proofs.lemmas.Result.{err_from_is_err_and}
use Rattle.net_core.specs.Statements.{Inputs}
use Rattle.blif_in.proofs.Forms.{no_gate, none_where}
use Rattle.blif_in.proofs.Judged.{count_more, count_over, count_within, first_here, first_later, where_told}
use Rattle.blif_in.proofs.standing.Standing.after_inputs.Goals as goal

pub returns-in_err-judge_lengths-clause-judged : goal.returns-in_err-judge_lengths-clause-judged
returns-in_err-judge_lengths-clause-judged c earlier s =
    let p = err_from_is_err_and c.from_residual.result c.from_residual.ensures.1 in
    rw (p.1, p.2) (first_here _ _ _ c.in_err-judge_lengths.ensures)

pub returns-then-names-self-clause-judged : goal.returns-then-names-self-clause-judged
returns-then-names-self-clause-judged c earlier s =
    first_later _ _ _ c.in_ok-judge_lengths.ensures (first_here _ _ _ (where_told _ _ _ c.over.ensures (count_over 256 c.args.self.now.summary.inputs c.args.names.now _ s.inputs c.if-names-self.true)))

pub returns-clause-judged : goal.returns-clause-judged
returns-clause-judged c earlier s = (
  first_later _ _ _ c.in_ok-judge_lengths.ensures (first_later _ _ _ (none_where _ _ (count_within 256 c.args.self.now.summary.inputs c.args.names.now _ s.inputs c.requires.small.inputs c.if-names-self.false)) refl),
  record {
    begun = refl;
    model = s.model;
    clock_word = s.clock_word;
    clock = s.clock;
    gate = refl;
    inputs = count_more _ _ _ s.inputs;
    outputs = s.outputs;
    latches = s.latches;
    gates = s.gates ∙ sym (no_gate (Inputs c.args.names.now) earlier refl);
  },
)
