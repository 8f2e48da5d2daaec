use Rattle.std.proofs.Common.{◌∙◌, subst, sym, refl, arith}
use Rattle.std.proofs.lemmas.Bool.{true≢false}
use Rattle.std.proofs.lemmas.List.{take_all}
use Rattle.std.proofs.lemmas.List.Elements.{All-more}
use Rattle.dependence.specs.SufficientBits.{AgreeOn, InWord}
use Rattle.least_codes.specs.declared.two_states.TwoStates.{TwoStates}
use Rattle.least_codes.specs.Inner.StatePairs.{TellsApart}
use Rattle.least_codes.proofs.choice.tells_apart.Goals as goal

pub returns-then-not-differ_on : goal.returns-then-not-differ_on
returns-then-not-differ_on c = (
  (λ is. absurd (true≢false (sym is))),
  (λ tells. absurd (true≢false (sym (c.differ_on.ensures.1 (tells c.loop-pair.pair-index _ c.loop-pair-test.true)) ∙ c.if-not-differ_on.true))),
)

pub loop-pair-preserved : goal.loop-pair-preserved
loop-pair-preserved c =
    All-more (λ (pair : TwoStates). AgreeOn c.args.words.now (InWord c.args.set) pair.s pair.t → ⊥) c.args.apart.now c.loop-pair.pair-index _ c.loop-pair-test.true
    c.loop-pair.invariant (c.differ_on.ensures.0 c.if-not-differ_on.false)

pub returns : goal.returns
returns c = (
  (λ is. subst (λ list. TellsApart c.args.words.now list (InWord c.args.set)) (take_all c.loop-pair.pair-index c.args.apart.now (omega arith)) c.loop-pair.invariant),
  (λ tells. refl),
)
