use Rattle.std.proofs.Common.{ℕ, ◌+◌, ◌<◌, List, length, get_or, drop, set, Some, sym, ◌∙◌, ap, subst}
use Rattle.std.proofs.lemmas.Option.{slice_get-get_or}
use Rattle.net_sim.specs.Inner.GateValues.{evaluated}
use Rattle.net_sim.proofs.Evaluating.{evaluated_next}
use Rattle.net_sim.proofs.step.evaluate.Goals as goal

pub loop-place-preserved : goal.loop-place-preserved
loop-place-preserved c =
    let order = c.args.order.now in
    let base : ℕ = order.input_count + order.latch_count in
    let places = c.deref-place-items.result.now in
    let i = c.loop-place.place-index in
    let gate = c.index-gate.result.now in
    let within : get_or places i 0 < length order.gates.items =
    subst (λ (list : List ℕ). i < length list → get_or list i 0 < length order.gates.items) (sym c.deref-place-items.ensures.value) (order.sequence_within i 0) c.loop-place-test.true in
    c.loop-place.invariant
    ∙ (evaluated_next base order.gates.items places i c.loop-place.signals gate c.loop-place-test.true
    (slice_get-get_or order.gates.items (get_or places i 0) gate within ∙ ap Some (sym c.index-gate.ensures))
    ∙ ap (λ v. evaluated base order.gates.items (drop (i + 1) places) (set c.loop-place.signals (base + get_or places i 0) v)) (sym c.value_by_any.ensures))
