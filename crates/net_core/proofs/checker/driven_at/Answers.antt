use Rattle.std.proofs.Common.{◌≡◌, ◌+◌, ◌<◌, ◌++◌, ◌∷◌, [], List, ℕ, Some, get_or, length, slice_get, take, sym, ◌∙◌, ap, subst, arith}
use Rattle.std.proofs.lemmas.List.{take_more}
use Rattle.std.proofs.lemmas.Option.{slice_get-get_or}
use Rattle.net_core.specs.declared.Gate.{Gate}
use Rattle.net_core.specs.Order.{AreAt}
use Rattle.net_core.specs.SoundNetwork.{driven_by}
use Rattle.net_core.specs.Laws.Zipped.{zip_push}
use Rattle.net_core.proofs.Ordered.{name_of_gate}
use Rattle.net_core.proofs.checker.driven_at.Goals as goal

pub loop-place-preserved : goal.loop-place-preserved
loop-place-preserved c =
    let driven = driven_by c.args.gates.now in
    let places = c.args.places.now in
    let i = c.loop-place.place-index in
    let place : ℕ = get_or places i 0 in
    let gate = c.index-gates-place.result in
    let name = c.in_ok-new.field-0 in
    let within : place < length c.args.gates.now = c.requires i 0 (omega arith) in
    let here : slice_get driven place ≡ Some name =
    name_of_gate c.args.gates.now place gate (slice_get-get_or c.args.gates.now place gate within ∙ ap Some (sym c.index-gates-place.is))
    ∙ ap Some (sym (c.in_ok-new.ensures ∙ (c.bytes.ensures ∙ ap (λ (g : Gate). g.output) (sym c.index-gates-place.is)))) in
    subst (AreAt driven (take (i + 1) places)) (sym c.in_ok-push.ensures.ok)
    (subst (λ (list : List ℕ). AreAt driven list (c.loop-place.names ++ name ∷ [])) (sym (take_more places i 0 (omega arith)))
    (zip_push (λ p n. slice_get driven p ≡ Some n) (take i places) c.loop-place.names place name c.loop-place.invariant here))
