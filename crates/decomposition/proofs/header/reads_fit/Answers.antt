use Rattle.std.proofs.Common.{◌<◌, ◌^◌, All, subst}
use Rattle.std.proofs.lemmas.List.{take_all}
use Rattle.std.proofs.lemmas.List.Elements.{All-more}
use Rattle.decomposition.specs.Inner.Header.{HasSmallReads}
use Rattle.decomposition.proofs.header.reads_fit.Goals as goal

pub loop-part-preserved : goal.loop-part-preserved
loop-part-preserved c =
    let small : HasSmallReads c.part-item.result =
    subst (All (λ number. number < 2 ^ 16)) c.as_slice.ensures c.numbers_fit.ensures in
    All-more HasSmallReads c.args.parts.now c.loop-part.part-index c.part-item.result c.loop-part-test.true c.loop-part.invariant (subst HasSmallReads c.part-item.is small)

pub returns : goal.returns
returns c = subst (All HasSmallReads) (take_all c.loop-part.part-index c.args.parts.now c.loop-part-test.false) c.loop-part.invariant
