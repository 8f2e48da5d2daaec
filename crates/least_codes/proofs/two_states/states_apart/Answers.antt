use Rattle.std.proofs.Common.{◌+◌, ◌∙◌, List, [], subst, sym, ap, take, length}
use Rattle.std.proofs.lemmas.Bool.{true≢false}
use Rattle.least_codes.specs.declared.two_states.TwoStates.{TwoStates}
use Rattle.dependence.specs.Bit.{value_of}
use Rattle.least_codes.specs.Inner.StatePairs.{AreApartOf, ArePairs}
use Rattle.least_codes.proofs.Pairs.{apart_all, apart_differ, apart_none, apart_same}
use Rattle.least_codes.proofs.two_states.states_apart.Goals as goal
use Rattle.least_codes.proofs.two_states.states_apart.Goals.{then-not-gives_the_same+in_ok-push, else-not-gives_the_same}

pub loop-pair-init : goal.loop-pair-init
loop-pair-init c =
    subst (AreApartOf c.args.m.now (value_of c.args.m.now c.args.words.now c.args.bit) []) (sym c.new-apart.ensures.items) (apart_none c.args.m.now (value_of c.args.m.now c.args.words.now c.args.bit))

-- the pairs, as they are lent
pairs : (c : goal.After-drop-pairs-2) → ArePairs c.deref-pair-items.result.now (length c.args.m.now.states)
pairs c = subst (λ (list : List TwoStates). ArePairs list (length c.args.m.now.states)) (sym c.deref-pair-items.ensures.value) (subst (ArePairs c.in_ok-pairs.pairs.items) c.states.ensures.count c.in_ok-pairs.ensures)

pub loop-pair-preserved : goal.loop-pair-preserved
loop-pair-preserved c =
    let pairs : ArePairs c.deref-pair-items.result.now (length c.args.m.now.states) =
    subst (λ (list : List TwoStates). ArePairs list (length c.args.m.now.states)) (sym c.deref-pair-items.ensures.value) (subst (ArePairs c.in_ok-pairs.pairs.items) c.states.ensures.count c.in_ok-pairs.ensures) in
    elim c.if-not-gives_the_same.branch [
      | then-not-gives_the_same+in_ok-push w ↦
          subst (AreApartOf c.args.m.now (value_of c.args.m.now c.args.words.now c.args.bit) (take (c.loop-pair.pair-index + 1) c.deref-pair-items.result.now)) (sym (ap (λ v. v.items) w.apart-is ∙ w.in_ok-push.ensures.items))
          (apart_differ c.args.m.now (value_of c.args.m.now c.args.words.now c.args.bit) c.deref-pair-items.result.now c.loop-pair.apart.items c.loop-pair.pair-index _ c.loop-pair-test.true c.loop-pair.invariant
          (pairs.lawful c.loop-pair.pair-index _ c.loop-pair-test.true) (λ same. true≢false (sym (c.gives_the_same.ensures.1 same) ∙ w.if-not-gives_the_same.true)))
      | else-not-gives_the_same w ↦
          subst (AreApartOf c.args.m.now (value_of c.args.m.now c.args.words.now c.args.bit) (take (c.loop-pair.pair-index + 1) c.deref-pair-items.result.now)) (ap (λ v. v.items) (sym w.apart-is))
          (apart_same c.args.m.now (value_of c.args.m.now c.args.words.now c.args.bit) c.deref-pair-items.result.now c.loop-pair.apart.items c.loop-pair.pair-index _ c.loop-pair-test.true c.loop-pair.invariant
          (c.gives_the_same.ensures.0 w.if-not-gives_the_same.false))
    ]

pub returns : goal.returns
returns c =
    apart_all c.args.m.now (value_of c.args.m.now c.args.words.now c.args.bit) c.deref-pair-items.result.now c.loop-pair.apart.items c.loop-pair.pair-index c.loop-pair-test.false (pairs c) c.loop-pair.invariant
