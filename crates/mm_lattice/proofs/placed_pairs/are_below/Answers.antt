use Rattle.std.proofs.Common.{◌≡◌, ℕ, length, refl, subst, arith}
use Rattle.std.proofs.lemmas.List.Elements.{at_read}
use Rattle.mm_lattice.specs.Inner.PlacedPairs.{AreBelowUpTo}
use Rattle.mm_lattice.proofs.Placed.{below_more}
use Rattle.mm_lattice.proofs.placed_pairs.are_below.Goals as goal

pub loop-right-preserved : goal.loop-right-preserved
loop-right-preserved c =
    let rights = c.args.rights.now in
    let i = c.loop-right.right-index in
    rw c.in_ok-push.ensures.items
    (below_more rights c.args.q.now i c.loop-right.below.items c.right-item.result c.le.result
    (at_read rights (λ r. r ≡ c.right-item.result) i c.right-item.result c.loop-right-test.true c.right-item.is refl) c.le.ensures c.loop-right.invariant)

pub returns : goal.returns
returns c =
    let rights = c.args.rights.now in
    let all : c.loop-right.right-index ≡ length rights = omega (arith, c.loop-right-test.false, c.loop-right.auto.right-index-end) in
    subst (λ (n : ℕ). AreBelowUpTo rights c.args.q.now n c.loop-right.below.items) all c.loop-right.invariant
