use Rattle.std.proofs.Common.{◌≡◌, true, false, sym, subst, arith}
use Rattle.std.proofs.lemmas.Result.{IfOk-weaker}
use Rattle.gate_rows.specs.Inner.Terms.{HoldWhatIsRead}
use Rattle.gate_rows.proofs.AskedTerms.{can_cover_at, read_cover_at}
use Rattle.gate_rows.proofs.demands.demanded_rows.Goals as goal

pub rows-requires : goal.rows-requires
rows-requires c =
    can_cover_at c.args.inputs.now c.args.places.now c.args.demands.now _ _ _ (omega arith) c.requires.read.width c.requires.apart
    (subst (HoldWhatIsRead c.args.inputs.now c.args.places.now true c.args.demands.now) (sym c.deref.ensures.value) c.in_ok-on.ensures)
    (subst (HoldWhatIsRead c.args.inputs.now c.args.places.now false c.args.demands.now) (sym c.deref-2.ensures.value) c.in_ok-off.ensures)

pub returns-clause-cover : goal.returns-clause-cover
returns-clause-cover c =
    IfOk-weaker c.rows.result _ _
    (λ names good.
    read_cover_at c.args.inputs.now c.args.places.now c.args.demands.now _ c.deref.result.now c.deref-2.result.now names (omega arith)
    (subst (HoldWhatIsRead c.args.inputs.now c.args.places.now true c.args.demands.now) (sym c.deref.ensures.value) c.in_ok-on.ensures)
    (subst (HoldWhatIsRead c.args.inputs.now c.args.places.now false c.args.demands.now) (sym c.deref-2.ensures.value) c.in_ok-off.ensures)
    good)
    c.rows.ensures.cover
