use Rattle.gate_rows.specs.Laws.ReadNumbers.{term_read}
use Rattle.gate_rows.proofs.columns.term_of.Goals as goal

pub returns : goal.returns
returns c = term_read c.args.cube.now c.args.inputs.now c.args.places.now c.args.word c.characters_term.result c.requires.inputs c.requires.ascending c.characters_term.ensures
