use Rattle.std.proofs.Common.{◌+◌, List, sym, subst}
use Rattle.least_codes.specs.declared.two_states.TwoStates.{TwoStates}
use Rattle.least_codes.specs.Inner.StatePairs.{ArePairsUpTo}
use Rattle.least_codes.proofs.Pairs.{pairs_done, pairs_more}
use Rattle.least_codes.proofs.two_states.add_pairs.Goals as goal

pub loop-s-preserved : goal.loop-s-preserved
loop-s-preserved c =
    subst (λ (list : List TwoStates). ArePairsUpTo list c.args.t (c.loop-s.s + 1)) (sym c.in_ok-push.ensures.items) (pairs_more c.loop-s.pairs.items c.args.t c.loop-s.s c.loop-s-test.true c.loop-s.invariant)

pub returns : goal.returns
returns c = pairs_done c.loop-s.pairs.items c.args.t c.loop-s.s c.loop-s-test.false c.loop-s.invariant
