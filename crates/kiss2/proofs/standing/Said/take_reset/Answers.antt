use Rattle.std.proofs.Common.{◌≡◌, ◌<◌, ◌^◌, ℕ, List, All, length, false, Some, refl, ap, subst, sym, ◌∙◌}
use Rattle.std.proofs.lemmas.List.Elements.{All-drop}
use Rattle.std.proofs.lemmas.Result.{err_from_is_err_and}
use Rattle.std.specs.Option.{is_some, option_map}
use Rattle.kiss2.specs.declared.line_kind.LineKind.TheVariants.{Reset}
use Rattle.kiss2.specs.Faults.{operand_of, reset_fault}
use Rattle.kiss2.specs.Standing.{has_stood}
use Rattle.kiss2.specs.Inner.ReaderState.{reset_line}
use Rattle.kiss2.specs.Laws.Stood.{fault_again, fault_form, is_some-map, operand_field, own, stay}
use Rattle.kiss2.proofs.standing.Said.take_reset.Goals as goal

pub returns-then-is_some-clause-judged : goal.returns-then-is_some-clause-judged
returns-then-is_some-clause-judged c before stands = fault_again before c.args.line.now Reset c.requires.clean c.requires.kind (sym (is_some-map _ _) ∙ (ap is_some (sym stands.reset) ∙ (sym c.is_some.ensures ∙ c.if-is_some.true)))

pub returns-in_err-name-clause-judged : goal.returns-in_err-name-clause-judged
returns-in_err-name-clause-judged c before stands =
    let p = err_from_is_err_and c.from_residual.result c.from_residual.ensures.1 in
    let fresh : has_stood Reset before ≡ false = (sym (is_some-map _ _) ∙ (ap is_some (sym stands.reset) ∙ (sym c.is_some.ensures ∙ c.if-is_some.false))) in
    rw (p.1, p.2) (fault_form before c.args.line.now Reset c.requires.clean c.requires.kind fresh ∙ (ap (reset_fault) (sym c.operands_of.ensures) ∙ c.in_err-name.ensures))

pub returns-clause-judged : goal.returns-clause-judged
returns-clause-judged c before stands =
    let fresh : has_stood Reset before ≡ false = (sym (is_some-map _ _) ∙ (ap is_some (sym stands.reset) ∙ (sym c.is_some.ensures ∙ c.if-is_some.false))) in
    let kept = stay before c.args.line.now Reset c.requires.kind in (
      fault_form before c.args.line.now Reset c.requires.clean c.requires.kind fresh ∙ (ap (reset_fault) (sym c.operands_of.ensures) ∙ c.in_ok-name.ensures.0),
      record {
        inputs = stands.inputs ∙ kept.inputs refl;
        outputs = stands.outputs ∙ kept.outputs refl;
        row_word = stands.row_word ∙ kept.row_word refl;
        state_word = stands.state_word ∙ kept.state_word refl;
        reset = ap (λ name. Some (record { number = c.args.line.now.number; name = name })) (c.in_ok-new.ensures ∙ (c.in_ok-name.ensures.1 ∙ (ap operand_of c.operands_of.ensures ∙ operand_field c.args.line.now))) ∙ sym (ap (option_map reset_line) (own before c.args.line.now Reset c.requires.kind refl fresh));
        input_names = stands.input_names ∙ kept.input_names refl;
        output_names = stands.output_names ∙ kept.output_names refl;
        rows = stands.rows ∙ kept.rows refl;
        states = stands.states ∙ kept.states refl;
      },
    )

pub reset_said-requires : goal.reset_said-requires
reset_said-requires c =
    subst (λ (names : List (List ℕ)). All (λ name. length name < 2 ^ 32) names) (sym c.operands_of.ensures) (All-drop (λ name. length name < 2 ^ 32) 1 c.args.line.now.fields c.requires.short)

pub returns-in_err-name-clause-small : goal.returns-in_err-name-clause-small
returns-in_err-name-clause-small c = let p = err_from_is_err_and c.from_residual.result c.from_residual.ensures.1 in rw p.1 tt

pub returns-in_err-new-clause-judged : goal.returns-in_err-new-clause-judged
returns-in_err-new-clause-judged c before stands =
    let p = err_from_is_err_and c.from_residual-in_err-new.result c.from_residual-in_err-new.ensures.1 in rw (p.1, p.2) tt

pub returns-in_err-new-clause-small : goal.returns-in_err-new-clause-small
returns-in_err-new-clause-small c = let p = err_from_is_err_and c.from_residual-in_err-new.result c.from_residual-in_err-new.ensures.1 in rw p.1 tt

pub returns-clause-small : goal.returns-clause-small
returns-clause-small c = record { states = c.requires.small.states; input_names = c.requires.small.input_names; output_names = c.requires.small.output_names }
