use Rattle.std.proofs.Common.{◌+◌, subst, sym, ◌∙◌}
use Rattle.std.proofs.lemmas.Bool.{false≢true}
use Rattle.cover_split.proofs.JointLemmas.{AreMetBelow, all_met, met_more, met_past, none_met}
use Rattle.cover_split.proofs.joint.those_meeting.Goals as goal
use Rattle.cover_split.proofs.joint.those_meeting.Goals.{then-meets+in_ok-push, else-meets}

pub loop-piece-init : goal.loop-piece-init
loop-piece-init c = subst (AreMetBelow c.args.cube.now c.args.pieces.now 0) (sym c.new-met.ensures) (none_met c.args.cube.now c.args.pieces.now)

pub loop-piece-preserved : goal.loop-piece-preserved
loop-piece-preserved c =
    let cube = c.args.cube.now in
    let pieces = c.args.pieces.now in
    let i = c.loop-piece.piece-index in
    let piece = c.piece-item.result in
    elim c.if-meets.branch [
      | then-meets+in_ok-push w ↦
          met_more cube pieces i c.loop-piece.met piece c.loop-piece.invariant c.loop-piece-test.true c.piece-item.is c.if-meets.met (w.met-is ∙ w.in_ok-push.ensures.ok)
      | else-meets w ↦
          subst (AreMetBelow cube pieces (i + 1)) (sym w.met-is)
          (met_past cube pieces i c.loop-piece.met piece c.loop-piece.invariant c.loop-piece-test.true c.piece-item.is (λ it. false≢true (sym w.if-meets.false ∙ c.meets.ensures.1 it)))
    ]

pub returns : goal.returns
returns c = all_met c.args.cube.now c.args.pieces.now c.loop-piece.piece-index c.loop-piece.met c.loop-piece-test.false c.loop-piece.invariant
