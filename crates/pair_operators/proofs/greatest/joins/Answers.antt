use Rattle.std.proofs.Common.{ℕ, sym, subst, arith}
use Rattle.pair_operators.specs.NextBlocks.{Goes}
use Rattle.pair_operators.proofs.Firsts.{firsts_from_pair}
use Rattle.pair_operators.proofs.greatest.joins.Goals as goal

pub returns-then-least-s-clause-goes : goal.returns-then-least-s-clause-goes
returns-then-least-s-clause-goes c =
    subst (λ (u : ℕ). Goes c.args.m.now c.args.q.now u c.args.s) (sym c.least_of-least.ensures.least)
    (firsts_from_pair c.args.m.now c.args.known.now c.args.q.now c.requires.pair c.args.s (omega (arith, c.requires.s, c.requires.size)))
