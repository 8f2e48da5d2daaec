use Rattle.std.proofs.Common.{◌≡◌, ◌+◌, ◌≤◌, ℕ, Bool, true, false, not, List, length, refl, sym, ◌∙◌, subst, arith}
use Rattle.std.proofs.lemmas.Bool.{false≢true}
use Rattle.partition.specs.Partition.{IsPartition, blocks_of}
use Rattle.pair_operators.specs.Laws.Pairs.{pair_monotone}
use Rattle.shift_real.specs.Chain.{AreTogetherAfter, IsChain}
use Rattle.shift_real.specs.Inner.RisingChain.{IsRising}
use Rattle.shift_real.proofs.RisingMembers.{chain_whole, few_first, few_more, few_whole, fewer, last_below, rising_first, rising_more}
use Rattle.shift_real.proofs.chains.chain.Goals as goal

from_not : (b : Bool) → not b ≡ false → b ≡ true
from_not true h = refl
from_not false h = absurd (false≢true (sym h))

to_not : (b : Bool) → not b ≡ true → b ≡ false
to_not true h = absurd (false≢true h)
to_not false h = refl

pub rising-init : goal.rising-init
rising-init c =
    record {
      chain = record {
        rising = subst (λ (list : List (List ℕ)). IsRising c.args.m.now list c.in_ok-last.last) (sym c.new-members.ensures)
            (rising_first c.args.m.now c.in_ok-last.last (subst (λ (n : ℕ). IsPartition n c.in_ok-last.last) c.states.ensures.count c.in_ok-last.ensures.lawful) c.in_ok-last.ensures.zero);
        high = c.in_ok-next.ensures.high;
        few = few_first c.args.m.now c.new-members.result c.in_ok-last.last c.new-members.ensures (subst (λ (n : ℕ). IsPartition n c.in_ok-last.last) c.states.ensures.count c.in_ok-last.ensures.lawful);
      };
      asked = c.in_ok-next.ensures.asked;
    }

pub rising-smaller : goal.rising-smaller
rising-smaller c =
    fewer c.args.m.now c.rising.members c.rising.last c.rising.next c.states.ensures.inside c.rising.invariant.chain
    (λ same. let holds : c.equal.result ≡ true = c.equal.ensures.1 same in let fails : c.equal.result ≡ false = first_of (cc, search (c.rising-test.true, to_not)) in false≢true (sym fails ∙ holds))

pub rising-preserved : goal.rising-preserved
rising-preserved c =
    let other : c.rising.next ≡ c.rising.last → ⊥ = λ same. let holds : c.equal.result ≡ true = c.equal.ensures.1 same in let fails : c.equal.result ≡ false = first_of (cc, search (c.rising-test.true, to_not)) in false≢true (sym fails ∙ holds) in
    record {
      chain = record {
        rising = subst (λ (list : List (List ℕ)). IsRising c.args.m.now list c.rising.next) (sym c.in_ok-push.ensures.ok)
            (rising_more c.args.m.now c.rising.members c.rising.last c.rising.next c.states.ensures.inside c.rising.invariant.chain other);
        high = c.in_ok-next-2.ensures.high;
        few = subst (λ (list : List (List ℕ)). length list + blocks_of c.rising.next ≤ length c.args.m.now.states) (sym c.in_ok-push.ensures.ok)
            (few_more c.args.m.now c.rising.members c.rising.last c.rising.next c.states.ensures.inside c.rising.invariant.chain other);
      };
      asked = c.in_ok-next-2.ensures.asked;
    }

pub returns-clause-chain : goal.returns-clause-chain
returns-clause-chain c =
    let holds : c.equal.result ≡ true = first_of (cc, search (c.rising-test.false, from_not)) in
    subst (IsChain c.args.m.now) (sym c.in_ok-push-2.ensures.ok)
    (chain_whole c.args.m.now c.rising.members c.rising.last c.rising.next c.states.ensures.inside c.rising.invariant.chain (c.equal.ensures.0 holds))

pub returns-clause-together : goal.returns-clause-together
returns-clause-together c = subst (AreTogetherAfter c.args.m.now) (sym c.in_ok-push-2.ensures.ok) c.rising.invariant.chain.rising.tell

pub returns-clause-few : goal.returns-clause-few
returns-clause-few c =
    subst (λ (list : List (List ℕ)). length list ≤ length c.args.m.now.states) (sym c.in_ok-push-2.ensures.ok)
    (few_whole c.args.m.now c.rising.members c.rising.last c.rising.next c.states.ensures.inside c.rising.invariant.chain (let some = c.states.ensures.some in let count = c.states.ensures.count in omega (arith, some, count)))

-- the chain rises, so each member is closed
pub high_above-requires-clause-closed : goal.high_above-requires-clause-closed
high_above-requires-clause-closed c =
    pair_monotone c.args.m.now c.rising.next c.rising.last c.rising.next c.rising.next (λ s t held. held)
    (last_below c.args.m.now c.rising.members c.rising.last c.rising.next c.states.ensures.inside c.rising.invariant.chain) c.rising.invariant.chain.high.pair
