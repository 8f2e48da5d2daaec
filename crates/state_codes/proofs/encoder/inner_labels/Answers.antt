use Rattle.std.proofs.Common.{◌≡◌, ◌+◌, ◌++◌, ◌∷◌, [], take, sym, ap, ◌∙◌, arith, List, length, subst}
use Rattle.state_codes.specs.Code.{AreInside}
use Rattle.partition.specs.Partition.{Le}
use Rattle.std.proofs.lemmas.List.{take_more, take_all}
use Rattle.state_codes.specs.declared.split.Part.{Part}
use Rattle.state_codes.specs.Laws.Places.{AreInside-push}
use Rattle.state_codes.proofs.encoder.inner_labels.Goals as goal

pub loop-part-preserved : goal.loop-part-preserved
loop-part-preserved c =
    let part : Part = c.part-item.result in
    let more : take (c.loop-part.part-index + 1) c.args.parts.now ≡ take c.loop-part.part-index c.args.parts.now ++ part ∷ [] =
    take_more c.args.parts.now c.loop-part.part-index part (omega arith) ∙ ap (λ (one : Part). take c.loop-part.part-index c.args.parts.now ++ one ∷ []) (sym c.part-item.is) in
    rw (more, c.in_ok-push.ensures.items) (AreInside-push (take c.loop-part.part-index c.args.parts.now) c.loop-part.inners.items part c.in_ok-inner.inner c.loop-part.invariant c.in_ok-inner.ensures)

pub loop-part-init : goal.loop-part-init
loop-part-init c = rw c.in_ok-inners.ensures.items tt

pub inside-requires-clause-length : goal.inside-requires-clause-length
inside-requires-clause-length c = subst (λ (part : Part). length part.partition ≡ length part.carrier) (sym c.part-item.is) (c.requires.length c.loop-part.part-index c.part-item.result c.loop-part-test.true)

pub inside-requires-clause-le : goal.inside-requires-clause-le
inside-requires-clause-le c = subst (λ (part : Part). Le part.partition part.carrier) (sym c.part-item.is) (c.requires.above c.loop-part.part-index c.part-item.result c.loop-part-test.true)

pub returns : goal.returns
returns c = subst (λ (list : List Part). AreInside list c.loop-part.inners.items) (take_all c.loop-part.part-index c.args.parts.now c.loop-part-test.false) c.loop-part.invariant
