use Rattle.std.proofs.Common.{◌<◌, ◌^◌, ℕ, List, All, length, refl, sym, ◌∙◌, subst, inl, inr}
use Rattle.std.proofs.lemmas.List.Elements.{All-drop}
use Rattle.std.proofs.lemmas.Result.{on_ok_weaker}
use Rattle.kiss2.specs.declared.line_kind.LineKind.TheVariants.{Blank, End, Unknown}
use Rattle.kiss2.specs.Laws.Stood.{fault_bad, fault_form, stands_on}
use Rattle.kiss2.proofs.Taken.{input_names_taken, inputs_taken, on_ok, output_names_taken, outputs_taken, row_word_taken, state_word_taken}
use Rattle.kiss2.proofs.standing.Said.take_line.Goals as goal

pub returns-then-line-clause-judged : goal.returns-then-line-clause-judged
returns-then-line-clause-judged c before stands = fault_bad before c.args.line.now c.if-line.true

pub returns-in-Blank-clause-judged : goal.returns-in-Blank-clause-judged
returns-in-Blank-clause-judged c before stands =
    let line = c.args.line.now in
    elim c.in-Blank.is [
      | inl is ↦ (fault_form before line Blank c.if-line.false (sym c.line_kind.ensures ∙ is) refl, stands_on before line Blank (sym c.line_kind.ensures ∙ is) refl stands)
      | inr is ↦ (fault_form before line End c.if-line.false (sym c.line_kind.ensures ∙ is) refl, stands_on before line End (sym c.line_kind.ensures ∙ is) refl stands)
    ]

pub returns-in-Unknown-clause-judged : goal.returns-in-Unknown-clause-judged
returns-in-Unknown-clause-judged c before stands = fault_form before c.args.line.now Unknown c.if-line.false (sym c.line_kind.ensures ∙ c.in-Unknown.is) refl

pub returns-in-InputCount-clause-judged : goal.returns-in-InputCount-clause-judged
returns-in-InputCount-clause-judged c before stands =
    inputs_taken c.take_count.result c.args.self.now before c.args.line.now stands c.if-line.false c.operands_of.result.now c.operands_of.ensures (sym c.line_kind.ensures ∙ c.in-InputCount.is) c.take_count.new.count c.take_count.ensures

pub returns-in-InputCount-clause-small : goal.returns-in-InputCount-clause-small
returns-in-InputCount-clause-small c = on_ok c.take_count.result (record { states = c.requires.small.states; input_names = c.requires.small.input_names; output_names = c.requires.small.output_names })

pub returns-in-OutputCount-clause-judged : goal.returns-in-OutputCount-clause-judged
returns-in-OutputCount-clause-judged c before stands =
    outputs_taken c.take_count-in-OutputCount.result c.args.self.now before c.args.line.now stands c.if-line.false c.operands_of-in-OutputCount.result.now c.operands_of-in-OutputCount.ensures (sym c.line_kind.ensures ∙ c.in-OutputCount.is) c.take_count-in-OutputCount.new.count c.take_count-in-OutputCount.ensures

pub returns-in-OutputCount-clause-small : goal.returns-in-OutputCount-clause-small
returns-in-OutputCount-clause-small c = on_ok c.take_count-in-OutputCount.result (record { states = c.requires.small.states; input_names = c.requires.small.input_names; output_names = c.requires.small.output_names })

pub returns-in-RowCount-clause-judged : goal.returns-in-RowCount-clause-judged
returns-in-RowCount-clause-judged c before stands =
    row_word_taken c.take_word.result c.args.self.now before c.args.line.now stands c.if-line.false c.operands_of-in-RowCount.result.now c.operands_of-in-RowCount.ensures (sym c.line_kind.ensures ∙ c.in-RowCount.is) c.take_word.new.stands c.take_word.ensures

pub returns-in-RowCount-clause-small : goal.returns-in-RowCount-clause-small
returns-in-RowCount-clause-small c = on_ok c.take_word.result (record { states = c.requires.small.states; input_names = c.requires.small.input_names; output_names = c.requires.small.output_names })

pub returns-in-StateCount-clause-judged : goal.returns-in-StateCount-clause-judged
returns-in-StateCount-clause-judged c before stands =
    state_word_taken c.take_word-in-StateCount.result c.args.self.now before c.args.line.now stands c.if-line.false c.operands_of-in-StateCount.result.now c.operands_of-in-StateCount.ensures (sym c.line_kind.ensures ∙ c.in-StateCount.is) c.take_word-in-StateCount.new.stands c.take_word-in-StateCount.ensures

pub returns-in-StateCount-clause-small : goal.returns-in-StateCount-clause-small
returns-in-StateCount-clause-small c = on_ok c.take_word-in-StateCount.result (record { states = c.requires.small.states; input_names = c.requires.small.input_names; output_names = c.requires.small.output_names })

pub returns-in-InputNames-clause-judged : goal.returns-in-InputNames-clause-judged
returns-in-InputNames-clause-judged c before stands =
    input_names_taken c.take_names.result c.args.self.now before c.args.line.now stands c.if-line.false c.operands_of-in-InputNames.result.now c.operands_of-in-InputNames.ensures (sym c.line_kind.ensures ∙ c.in-InputNames.is) c.take_names.new.names c.take_names.ensures.judged

pub returns-in-InputNames-clause-small : goal.returns-in-InputNames-clause-small
returns-in-InputNames-clause-small c = on_ok_weaker c.take_names.result (λ few. record { states = c.requires.small.states; output_names = c.requires.small.output_names; input_names = few }) c.take_names.ensures.few

pub take_names-requires-clause-short : goal.take_names-requires-clause-short
take_names-requires-clause-short c =
    subst (λ (names : List (List ℕ)). All (λ name. length name < 2 ^ 32) names) (sym c.operands_of-in-InputNames.ensures) (All-drop (λ name. length name < 2 ^ 32) 1 c.args.line.now.fields c.requires.short)

pub returns-in-OutputNames-clause-judged : goal.returns-in-OutputNames-clause-judged
returns-in-OutputNames-clause-judged c before stands =
    output_names_taken c.take_names-in-OutputNames.result c.args.self.now before c.args.line.now stands c.if-line.false c.operands_of-in-OutputNames.result.now c.operands_of-in-OutputNames.ensures (sym c.line_kind.ensures ∙ c.in-OutputNames.is) c.take_names-in-OutputNames.new.names c.take_names-in-OutputNames.ensures.judged

pub returns-in-OutputNames-clause-small : goal.returns-in-OutputNames-clause-small
returns-in-OutputNames-clause-small c = on_ok_weaker c.take_names-in-OutputNames.result (λ few. record { states = c.requires.small.states; input_names = c.requires.small.input_names; output_names = few }) c.take_names-in-OutputNames.ensures.few

pub take_names-requires-in-OutputNames-clause-short : goal.take_names-requires-in-OutputNames-clause-short
take_names-requires-in-OutputNames-clause-short c =
    subst (λ (names : List (List ℕ)). All (λ name. length name < 2 ^ 32) names) (sym c.operands_of-in-OutputNames.ensures) (All-drop (λ name. length name < 2 ^ 32) 1 c.args.line.now.fields c.requires.short)
