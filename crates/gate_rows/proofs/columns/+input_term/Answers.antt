use Rattle.std.proofs.Common.{sym, ◌∙◌, refl, ◌<◌, length, arith}
use Rattle.gate_rows.specs.Inner.Literals.{input_character}
use Rattle.gate_rows.proofs.Literals.{all_others, none_of_none, with_last_dash, with_last_literal}
use Rattle.gate_rows.proofs.columns.+input_term.Goals as goal

pub returns-in_default : goal.returns-in_default
returns-in_default t c = none_of_none (input_character c.args.cube.now) c.args.inputs.now _ c.in_default.ensures.cases refl

pub input_term-term-requires : goal.input_term-term-requires
input_term-term-requires t c =
    let fewer : length c.in-Some.others.now < length c.args.inputs.now = omega (arith, c.in-Some.ensures.cases.1) in
    ((let fall : length c.in-Some.others.now < t = omega (arith, c.decreases, fewer) in fall), (all_others (λ a. a < c.args.cube.now.width) c.args.inputs.now c.in-Some.others.now c.in-Some.last.now c.in-Some.ensures.cases.0 c.requires.inputs, omega (arith, c.requires.width)))

pub returns-in-Some-character : goal.returns-in-Some-character
returns-in-Some-character t c =
    with_last_literal (input_character c.args.cube.now) c.args.inputs.now c.in-Some.others.now c.in-Some.last.now c.in-Some-character.one _ _
    c.in-Some.ensures.cases.0 (sym c.character.ensures ∙ c.in-Some-character.is) c.input_term-term.ensures c.with_literal.ensures.fits c.with_literal.ensures.holds

pub returns-in-None : goal.returns-in-None
returns-in-None t c =
    with_last_dash (input_character c.args.cube.now) c.args.inputs.now c.in-Some.others.now c.in-Some.last.now _
    c.in-Some.ensures.cases.0 (sym c.character.ensures ∙ c.in-None.is) c.input_term-term.ensures
