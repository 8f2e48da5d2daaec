use Rattle.std.proofs.Common.{◌++◌, [], ◌∷◌, ap, sym, ◌∙◌, arith}
use Rattle.std.specs.Prelude.{filter}
use Rattle.std.proofs.lemmas.Result.{err_from_is_err_and}
use Rattle.kiss2.specs.Inner.ReaderState.{once_after}
use Rattle.kiss2.specs.Standing.{state_names}
use Rattle.kiss2.specs.Words.{is_character_field, is_name, output_field}
use Rattle.kiss2.proofs.RowStands.{bad_output, count_put, good_row, row_form, row_stands, too_many_states}
use Rattle.kiss2.proofs.standing.Said.take_row.Goals as goal

pub returns-in_err-outputs-clause-judged : goal.returns-in_err-outputs-clause-judged
returns-in_err-outputs-clause-judged c before stands =
    let p = err_from_is_err_and c.from_residual.result c.from_residual.ensures.1 in
    rw (p.1, p.2) (row_form c.args.self.now before c.args.line.now stands c.requires.clean c.requires.kind ∙ c.in_err-outputs.ensures.bad (state_names (before ++ c.args.line.now ∷ [])))

pub returns-then-count-gt256-clause-judged : goal.returns-then-count-gt256-clause-judged
returns-then-count-gt256-clause-judged c before stands =
    let line = c.args.line.now in
    let states = state_names (before ++ line ∷ []) in
    let first = c.in_ok-add_name.ensures ∙ ap (λ field. once_after c.args.self.now.states (filter is_name (field ∷ []))) c.field_of.ensures in
    let second = c.in_ok-add_name-2.ensures ∙ ap (λ field. once_after c.add_name.new.names (filter is_name (field ∷ []))) c.field_of-2.ensures in
    let many = count_put c.args.self.now before line stands c.requires.clean c.requires.kind c.add_name.new.names c.add_name-2.new.names first second in
    row_form c.args.self.now before line stands c.requires.clean c.requires.kind
    ∙ (c.in_ok-outputs.ensures.good states ∙ too_many_states states (is_character_field c.in_ok-outputs.outputs (output_field line)) (omega arith))

pub returns-then-not-has_characters-clause-judged : goal.returns-then-not-has_characters-clause-judged
returns-then-not-has_characters-clause-judged c before stands =
    let line = c.args.line.now in
    let states = state_names (before ++ line ∷ []) in
    let first = c.in_ok-add_name.ensures ∙ ap (λ field. once_after c.args.self.now.states (filter is_name (field ∷ []))) c.field_of.ensures in
    let second = c.in_ok-add_name-2.ensures ∙ ap (λ field. once_after c.add_name.new.names (filter is_name (field ∷ []))) c.field_of-2.ensures in
    let few = count_put c.args.self.now before line stands c.requires.clean c.requires.kind c.add_name.new.names c.add_name-2.new.names first second in
    row_form c.args.self.now before line stands c.requires.clean c.requires.kind
    ∙ (c.in_ok-outputs.ensures.good states
    ∙ bad_output states (is_character_field c.in_ok-outputs.outputs (output_field line)) (omega arith)
    (ap (is_character_field c.in_ok-outputs.outputs) (sym c.field_of-3.ensures) ∙ (sym c.has_characters.ensures ∙ c.if-not-has_characters.true)))

pub returns-clause-judged : goal.returns-clause-judged
returns-clause-judged c before stands =
    let line = c.args.line.now in
    let states = state_names (before ++ line ∷ []) in
    let first = c.in_ok-add_name.ensures ∙ ap (λ field. once_after c.args.self.now.states (filter is_name (field ∷ []))) c.field_of.ensures in
    let second = c.in_ok-add_name-2.ensures ∙ ap (λ field. once_after c.add_name.new.names (filter is_name (field ∷ []))) c.field_of-2.ensures in
    let few = count_put c.args.self.now before line stands c.requires.clean c.requires.kind c.add_name.new.names c.add_name-2.new.names first second in (
      row_form c.args.self.now before line stands c.requires.clean c.requires.kind
          ∙ (c.in_ok-outputs.ensures.good states
          ∙ good_row states (is_character_field c.in_ok-outputs.outputs (output_field line)) (omega arith)
          (ap (is_character_field c.in_ok-outputs.outputs) (sym c.field_of-3.ensures) ∙ (sym c.has_characters.ensures ∙ c.if-not-has_characters.false))),
      row_stands c.args.self.now before line stands c.requires.clean c.requires.kind c.add_name.new.names c.add_name-2.new.names first second,
    )
