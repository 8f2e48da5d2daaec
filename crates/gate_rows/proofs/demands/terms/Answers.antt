use Rattle.std.proofs.Common.{◌≡◌, ◌+◌, ◌<◌, ◌≤◌, All, List, [], ◌∷◌, ◌++◌, length, take, ap, arith, sym, ◌∙◌, subst}
use Rattle.std.proofs.lemmas.List.{take_all, take_more}
use Rattle.std.proofs.lemmas.List.Elements.{All-get_or}
use Rattle.gate_rows.specs.declared.demands.Demand.{Demand}
use Rattle.gate_rows.specs.Inner.Terms.{HoldWhatIsRead}
use Rattle.gate_rows.proofs.AskedTerms.{other_bits, read_more, read_skip, read_start, same_bit}
use Rattle.gate_rows.proofs.demands.terms.Goals as goal
use Rattle.gate_rows.proofs.demands.terms.Goals.{then-demand-given+in_ok-push, else-demand-given}

pub loop-demand-init : goal.loop-demand-init
loop-demand-init c = subst (HoldWhatIsRead c.args.inputs.now c.args.places.now c.args.given []) (sym c.new-terms.ensures.items) (read_start c.args.inputs.now c.args.places.now c.args.given)

pub term_of-requires-clause-inputs : goal.term_of-requires-clause-inputs
term_of-requires-clause-inputs c =
    let at = c.demand-item.result in
    let Within : Demand → Type 0 = λ d. All (λ a. a < d.cube.width) c.args.inputs.now in
    subst Within (sym c.demand-item.is) (All-get_or Within c.args.demands.now c.loop-demand.demand-index at c.loop-demand-test.true c.requires.inputs_within)

pub term_of-requires-clause-ascending : goal.term_of-requires-clause-ascending
term_of-requires-clause-ascending c = c.requires.inputs_ascend

pub term_of-requires-clause-places : goal.term_of-requires-clause-places
term_of-requires-clause-places c = c.requires.places_within

pub term_of-requires-clause-width : goal.term_of-requires-clause-width
term_of-requires-clause-width c = c.requires.width

pub loop-demand-preserved : goal.loop-demand-preserved
loop-demand-preserved c =
    let k = c.loop-demand.demand-index in
    let at = c.demand-item.result in
    let more : take (k + 1) c.args.demands.now ≡ take k c.args.demands.now ++ at ∷ [] =
    take_more c.args.demands.now k at c.loop-demand-test.true ∙ ap (λ (d : Demand). take k c.args.demands.now ++ d ∷ []) (sym c.demand-item.is) in
    subst (λ (ds : List Demand). HoldWhatIsRead c.args.inputs.now c.args.places.now c.args.given ds c.if-demand-given.terms.items) (sym more)
    (elim c.if-demand-given.branch [
      | then-demand-given+in_ok-push w ↦
          read_more c.args.inputs.now c.args.places.now c.args.given (take k c.args.demands.now) at c.loop-demand.terms.items c.if-demand-given.terms.items w.term_of.result
          c.loop-demand.invariant (same_bit at.given c.args.given w.if-demand-given.true) w.term_of.ensures (ap (λ v. v.items) w.terms-is ∙ w.in_ok-push.ensures.items)
      | else-demand-given w ↦
          subst (HoldWhatIsRead c.args.inputs.now c.args.places.now c.args.given (take k c.args.demands.now ++ at ∷ [])) (sym (ap (λ v. v.items) w.terms-is))
          (read_skip c.args.inputs.now c.args.places.now c.args.given (take k c.args.demands.now) at c.loop-demand.terms.items c.loop-demand.invariant
          (other_bits at.given c.args.given w.if-demand-given.false))
    ])

pub returns : goal.returns
returns c =
    let end : length c.args.demands.now ≤ c.loop-demand.demand-index = omega arith in
    subst (λ (ds : List Demand). HoldWhatIsRead c.args.inputs.now c.args.places.now c.args.given ds c.loop-demand.terms.items) (take_all c.loop-demand.demand-index c.args.demands.now end) c.loop-demand.invariant
