use Rattle.decomposition.proofs.Labelling.{note_is}
use Rattle.decomposition.proofs.notes.note_of.Goals as goal

pub returns : goal.returns
returns c =
    note_is c.args.codes.now c.args.i c.args.set.now c.as_slice-words.result.now c.as_slice.result.now c.as_slice-2.result.now c.word_of.result c.in_ok-agreeing.field-0 c.in_ok-agreeing-2.field-0
    c.requires.bit c.as_slice-words.ensures c.as_slice.ensures c.as_slice-2.ensures c.word_of.ensures c.in_ok-agreeing.ensures c.in_ok-agreeing-2.ensures
