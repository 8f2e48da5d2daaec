use Rattle.std.proofs.Common.{refl}
use Rattle.gate_rows.specs.Inner.Literals.{code_character, input_character}
use Rattle.gate_rows.proofs.Literals.{term_of_lists}
use Rattle.gate_rows.proofs.columns.characters_term.Goals as goal

pub returns : goal.returns
returns c =
    term_of_lists (input_character c.args.cube.now) (code_character c.args.word) c.args.inputs.now c.args.places.now _ _ _ _ _
    refl refl refl c.input_term.ensures c.with_code.ensures.fits c.with_code.ensures.holds
