use Rattle.std.proofs.Common.{refl}
use Rattle.decomposition.proofs.Labelling.{word_all, word_more}
use Rattle.decomposition.proofs.labels.word_of.Goals as goal

pub loop-c-preserved : goal.loop-c-preserved
loop-c-preserved c =
    word_more c.args.bits.now c.loop-c.c-index c.loop-c.set _ c.loop-c-test.true refl (c.requires c.loop-c.c-index 0 c.loop-c-test.true) c.loop-c.invariant

pub returns : goal.returns
returns c = word_all c.args.bits.now c.loop-c.c-index c.loop-c.set c.loop-c-test.false c.loop-c.invariant
