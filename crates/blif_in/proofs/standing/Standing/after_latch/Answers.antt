use Rattle.std.proofs.Common.{◌≡◌, ◌++◌, List, ℕ, refl, sym, ap, subst, ◌∙◌}
use Rattle.std.specs.List.{flat_map}
use Rattle.std.specs.Option.{is_some, option_copied, option_to_list}
use Rattle.std.proofs.lemmas.Result.{err_from_is_err_and}
use Rattle.net_core.specs.Blif.{latch_names}
use Rattle.net_core.specs.Faults.{has_other_kind}
use Rattle.net_core.specs.Statements.{LatchLine, clocks_in, control_of, latch_parts}
use Rattle.blif_in.specs.declared.fault.BlifKind.TheVariants.{Clocks}
use Rattle.blif_in.specs.Faults.{fault_where, long_name}
use Rattle.blif_in.specs.Inner.Standing.{IsClock}
use Rattle.blif_in.specs.Inner.LineStatements.{parts_said}
use Rattle.blif_in.proofs.Forms.{no_gate, none_where}
use Rattle.blif_in.proofs.Judged.{first_here, first_later, lacks_start, latch_brings, latches_more, one_more, one_over, one_within, where_some, where_told}
use Rattle.blif_in.proofs.standing.Standing.after_latch.Goals as goal

pub returns-then-is_none-clause-judged : goal.returns-then-is_none-clause-judged
returns-then-is_none-clause-judged c earlier s =
    first_here _ _ _ (where_some _ _ (lacks_start (latch_parts c.args.operands.now) (parts_said c.in-Some.parts) _ c.in-Some.ensures (ap is_some (sym c.start_said.ensures) ∙ c.if-is_none.ensures)))

pub returns-then-is_other_kind-clause-judged : goal.returns-then-is_other_kind-clause-judged
returns-then-is_other_kind-clause-judged c earlier s =
    first_later _ _ _ (none_where _ _ (lacks_start (latch_parts c.args.operands.now) (parts_said c.in-Some.parts) _ c.in-Some.ensures (ap is_some (sym c.start_said.ensures) ∙ c.if-is_none.ensures)))
    (first_here _ _ _ (where_some _ _ (ap has_other_kind (sym c.in-Some.ensures) ∙ sym c.is_other_kind.ensures ∙ c.if-is_other_kind.true)))

pub returns-in_err-judge_latch_names-clause-judged : goal.returns-in_err-judge_latch_names-clause-judged
returns-in_err-judge_latch_names-clause-judged c earlier s =
    let p = err_from_is_err_and c.from_residual.result c.from_residual.ensures.1 in
    rw (p.1, p.2)
    (first_later _ _ _ (none_where _ _ (lacks_start (latch_parts c.args.operands.now) (parts_said c.in-Some.parts) _ c.in-Some.ensures (ap is_some (sym c.start_said.ensures) ∙ c.if-is_none.ensures)))
    (first_later _ _ _ (none_where _ _ (ap has_other_kind (sym c.in-Some.ensures) ∙ sym c.is_other_kind.ensures ∙ c.if-is_other_kind.false))
    (first_here _ _ _ (ap (λ given. long_name (latch_names given)) (sym c.in-Some.ensures) ∙ c.in_err-judge_latch_names.ensures))))

pub returns-in_err-clock-clause-judged : goal.returns-in_err-clock-clause-judged
returns-in_err-clock-clause-judged c earlier s =
    let p = err_from_is_err_and c.from_residual-in_err-clock.result c.from_residual-in_err-clock.ensures.1 in
    rw (p.1, p.2)
    (first_later _ _ _ (none_where _ _ (lacks_start (latch_parts c.args.operands.now) (parts_said c.in-Some.parts) _ c.in-Some.ensures (ap is_some (sym c.start_said.ensures) ∙ c.if-is_none.ensures)))
    (first_later _ _ _ (none_where _ _ (ap has_other_kind (sym c.in-Some.ensures) ∙ sym c.is_other_kind.ensures ∙ c.if-is_other_kind.false))
    (first_later _ _ _ (ap (λ given. long_name (latch_names given)) (sym c.in-Some.ensures) ∙ c.in_ok-judge_latch_names.ensures)
    (first_here _ _ _
    (ap (λ test. fault_where test Clocks) (latch_brings earlier c.args.operands.now _ (ap control_of (sym c.in-Some.ensures) ∙ c.clock_named.ensures)) ∙ c.in_err-clock.ensures (flat_map clocks_in earlier) s.clock)))))

pub returns-then-self-ge256-clause-judged : goal.returns-then-self-ge256-clause-judged
returns-then-self-ge256-clause-judged c earlier s =
    let starts = ap is_some (sym c.start_said.ensures) ∙ c.if-is_none.ensures in
    first_later _ _ _ (none_where _ _ (lacks_start (latch_parts c.args.operands.now) (parts_said c.in-Some.parts) _ c.in-Some.ensures starts))
    (first_later _ _ _ (none_where _ _ (ap has_other_kind (sym c.in-Some.ensures) ∙ sym c.is_other_kind.ensures ∙ c.if-is_other_kind.false))
    (first_later _ _ _ (ap (λ given. long_name (latch_names given)) (sym c.in-Some.ensures) ∙ c.in_ok-judge_latch_names.ensures)
    (first_later _ _ _
    (ap (λ test. fault_where test Clocks) (latch_brings earlier c.args.operands.now _ (ap control_of (sym c.in-Some.ensures) ∙ c.clock_named.ensures)) ∙ (c.in_ok-clock.ensures (flat_map clocks_in earlier) s.clock).0)
    (first_here _ _ _ (where_told _ _ _ c.over.ensures (one_over _ _ _ _ s.latches (latches_more (latch_parts c.args.operands.now) (parts_said c.in-Some.parts) _ c.in-Some.ensures starts) c.if-self-ge256.true))))))

pub returns-clause-judged : goal.returns-clause-judged
returns-clause-judged c earlier s =
    let starts = ap is_some (sym c.start_said.ensures) ∙ c.if-is_none.ensures in
    let more = latches_more (latch_parts c.args.operands.now) (parts_said c.in-Some.parts) _ c.in-Some.ensures starts in
    let clocks : clocks_in (LatchLine c.args.operands.now) ≡ option_to_list (option_copied c.clock_named.result) = ap control_of (sym c.in-Some.ensures) ∙ c.clock_named.ensures in
    let clock = c.in_ok-clock.ensures (flat_map clocks_in earlier) s.clock in (
      first_later _ _ _ (none_where _ _ (lacks_start (latch_parts c.args.operands.now) (parts_said c.in-Some.parts) _ c.in-Some.ensures starts))
          (first_later _ _ _ (none_where _ _ (ap has_other_kind (sym c.in-Some.ensures) ∙ sym c.is_other_kind.ensures ∙ c.if-is_other_kind.false))
          (first_later _ _ _ (ap (λ given. long_name (latch_names given)) (sym c.in-Some.ensures) ∙ c.in_ok-judge_latch_names.ensures)
          (first_later _ _ _ (ap (λ test. fault_where test Clocks) (latch_brings earlier c.args.operands.now _ clocks) ∙ clock.0)
          (first_later _ _ _ (none_where _ _ (one_within _ _ _ _ s.latches more c.if-self-ge256.false)) refl)))),
      record {
        begun = refl;
        model = s.model;
        clock_word = s.clock_word;
        clock = subst (λ (names : List (List ℕ)). IsClock (option_copied c.in_ok-clock.clock) (names ++ flat_map clocks_in earlier)) (sym clocks) clock.1;
        gate = refl;
        inputs = s.inputs;
        outputs = s.outputs;
        latches = one_more _ _ _ s.latches more;
        gates = s.gates ∙ sym (no_gate (LatchLine c.args.operands.now) earlier refl);
      },
    )
