use Rattle.std.proofs.Common.{ℕ, List, sym, subst}
use Rattle.mm_lattice.specs.Top.{IsGreatestRight}
use Rattle.mm_lattice.proofs.Topmost.{greatest_is_zero, grown_greatest}
use Rattle.mm_lattice.proofs.top.top_right.Goals as goal

pub returns-clause-greatest : goal.returns-clause-greatest
returns-clause-greatest c =
    let F = c.args.m.now in
    subst (λ (q : List ℕ). IsGreatestRight F q) (sym c.in_ok-pair.ensures.right)
    (grown_greatest F c.in_ok-grown.ensures.lawful.count c.in_ok-grown.grown c.in_ok-pair.pair.left c.in_ok-grown.ensures.growth c.in_ok-pair.ensures.left)

pub returns-clause-zero : goal.returns-clause-zero
returns-clause-zero c = greatest_is_zero c.args.m.now c.in_ok-grown.ensures.lawful.count c.in_ok-pair.pair.right (returns-clause-greatest c)
