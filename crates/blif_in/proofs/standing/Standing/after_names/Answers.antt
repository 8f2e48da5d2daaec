use Rattle.std.proofs.Common.{refl, sym, ◌∙◌}
use Rattle.std.proofs.lemmas.Result.{err_from_is_err_and}
use Rattle.std.proofs.lemmas.Bool.{le-ltb, lt-ltb}
use Rattle.blif_in.proofs.Forms.{none_where}
use Rattle.blif_in.proofs.Judged.{first_here, first_later, gates_more, one_more, one_over, one_within, where_some, where_told}
use Rattle.blif_in.proofs.standing.Standing.after_names.Goals as goal

pub returns-then-is_empty-clause-judged : goal.returns-then-is_empty-clause-judged
returns-then-is_empty-clause-judged c earlier s = first_here _ _ _ (where_some _ _ (sym c.is_empty.ensures ∙ c.if-is_empty.true))

pub returns-in_err-judge_lengths-clause-judged : goal.returns-in_err-judge_lengths-clause-judged
returns-in_err-judge_lengths-clause-judged c earlier s =
    let p = err_from_is_err_and c.from_residual.result c.from_residual.ensures.1 in
    rw (p.1, p.2) (first_later _ _ _ (none_where _ _ (sym c.is_empty.ensures ∙ c.if-is_empty.false)) (first_here _ _ _ c.in_err-judge_lengths.ensures))

pub returns-then-inputs-gt256-clause-judged : goal.returns-then-inputs-gt256-clause-judged
returns-then-inputs-gt256-clause-judged c earlier s =
    first_later _ _ _ (none_where _ _ (sym c.is_empty.ensures ∙ c.if-is_empty.false))
    (first_later _ _ _ c.in_ok-judge_lengths.ensures (first_here _ _ _ (where_told _ _ _ c.over.ensures (lt-ltb _ _ c.if-inputs-gt256.true))))

pub returns-then-self-ge65536-clause-judged : goal.returns-then-self-ge65536-clause-judged
returns-then-self-ge65536-clause-judged c earlier s =
    first_later _ _ _ (none_where _ _ (sym c.is_empty.ensures ∙ c.if-is_empty.false))
    (first_later _ _ _ c.in_ok-judge_lengths.ensures
    (first_later _ _ _ (none_where _ _ (le-ltb _ _ c.if-inputs-gt256.false))
    (first_here _ _ _ (where_told _ _ _ c.over-then-self-ge65536.ensures (one_over _ _ _ _ s.gates (gates_more c.args.names.now earlier) c.if-self-ge65536.true)))))

pub returns-clause-judged : goal.returns-clause-judged
returns-clause-judged c earlier s = (
  first_later _ _ _ (none_where _ _ (sym c.is_empty.ensures ∙ c.if-is_empty.false))
      (first_later _ _ _ c.in_ok-judge_lengths.ensures
      (first_later _ _ _ (none_where _ _ (le-ltb _ _ c.if-inputs-gt256.false))
      (first_later _ _ _ (none_where _ _ (one_within _ _ _ _ s.gates (gates_more c.args.names.now earlier) c.if-self-ge65536.false)) refl))),
  record {
    begun = refl;
    model = s.model;
    clock_word = s.clock_word;
    clock = s.clock;
    gate = refl;
    inputs = s.inputs;
    outputs = s.outputs;
    latches = s.latches;
    gates = one_more _ _ _ s.gates (gates_more c.args.names.now earlier);
  },
)
