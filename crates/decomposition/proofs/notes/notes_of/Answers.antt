use Rattle.decomposition.proofs.Labelling.{notes_more}
use Rattle.decomposition.proofs.notes.notes_of.Goals as goal

pub loop-i-preserved : goal.loop-i-preserved
loop-i-preserved c =
    notes_more c.args.codes.now c.args.sets.now c.loop-i.notes c.push.new.self c.loop-i.i c.index-sets-i.result c.in_ok-note_of.field-0 c.loop-i-test.true c.loop-i.invariant c.index-sets-i.is
    c.in_ok-note_of.ensures c.in_ok-push.ensures.ok
