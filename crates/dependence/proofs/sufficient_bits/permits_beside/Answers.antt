use Rattle.std.proofs.Common.{ℕ, List, Bool, length, refl, sym, ◌∙◌, subst, arith}
use Rattle.std.proofs.lemmas.Bool.{false≢true, true≢false}
use Rattle.dependence.specs.Bit.{value_of}
use Rattle.dependence.specs.Inner.Differences.{AreFound}
use Rattle.dependence.specs.Laws.Agreeing.{FirstGives, FirstsGive, first_itself, firsts_more, permits_from_firsts, same_from_permits}
use Rattle.dependence.proofs.Firsts.{firsts_none}
use Rattle.dependence.proofs.sufficient_bits.permits_beside.Goals as goal
use Rattle.dependence.proofs.sufficient_bits.permits_beside.Goals.{else-first-s-via-then-first-s+in_ok-gives_the_same+else-not-branch, else-first-s-via-else-first-s}

pub loop-s-init : goal.loop-s-init
loop-s-init c = record { give = λ s within. absurd (omega (arith, within)); firsts = firsts_none c.args.words.now c.args.set 509; found = c.requires.found }

pub returns-then-not-branch-clause-permits : goal.returns-then-not-branch-clause-permits
returns-then-not-branch-clause-permits c = (
  (λ is. absurd (false≢true is)),
  (λ permits.
      let same = same_from_permits c.args.m.now c.args.words.now c.args.set (value_of c.args.m.now c.args.words.now c.args.gate) c.loop-s.s c.first_like-first.result permits (omega arith) c.first_like-first.ensures.first in
      absurd (true≢false (sym (c.in_ok-gives_the_same.ensures.same.1 same) ∙ c.if-not-branch.true))),
)

pub loop-s-preserved : goal.loop-s-preserved
loop-s-preserved c =
    let value : ℕ → List Bool → Bool = value_of c.args.m.now c.args.words.now c.args.gate in
    let here : FirstGives c.args.m.now c.args.words.now c.args.set value c.loop-s.s = elim c.else-first-s.branch [
      | else-first-s-via-then-first-s+in_ok-gives_the_same+else-not-branch w ↦ record {
        first = c.first_like-first.result;
        is = c.first_like-first.ensures.first;
        same = w.in_ok-gives_the_same.ensures.same.0 w.if-not-branch.false;
      }
      | else-first-s-via-else-first-s w ↦ first_itself c.args.m.now c.args.words.now c.args.set value c.loop-s.s c.first_like-first.result c.first_like-first.ensures.first w.if-first-s.false
    ] in
    record {
      give = firsts_more c.args.m.now c.args.words.now c.args.set value c.loop-s.s c.loop-s.invariant.give here;
      firsts = c.first_like-first.ensures.firsts;
      found = elim c.else-first-s.branch [
        | else-first-s-via-then-first-s+in_ok-gives_the_same+else-not-branch w ↦ subst (λ d. AreFound c.args.m.now c.args.words.now d.found.items) (sym w.differences-is) w.in_ok-gives_the_same.ensures.found
        | else-first-s-via-else-first-s w ↦ subst (λ d. AreFound c.args.m.now c.args.words.now d.found.items) (sym w.differences-is) c.loop-s.invariant.found
      ];
    }

pub returns-clause-permits : goal.returns-clause-permits
returns-clause-permits c =
    let value : ℕ → List Bool → Bool = value_of c.args.m.now c.args.words.now c.args.gate in
    let all : FirstsGive c.args.m.now c.args.words.now c.args.set value (length c.args.m.now.states) = λ s within. c.loop-s.invariant.give s (omega arith) in
    ((λ is. permits_from_firsts c.args.m.now c.args.words.now c.args.set value all), (λ permits. refl))
