use Rattle.std.proofs.Common.{◌-◌, ◌^◌, ◌<◌, ap, subst, sym, arith}
use Rattle.std.proofs.lemmas.Nat.{one_shl}
use Rattle.pattern_bundles.specs.Inner.Plane.{AreFirst}
use Rattle.pattern_bundles.proofs.Words.{first_ones}
use Rattle.pattern_bundles.proofs.bundle.all_of.Goals as goal

pub returns-then-count-eq64 : goal.returns-then-count-eq64
returns-then-count-eq64 c = subst (λ count. AreFirst count (2 ^ 64 - 1)) (sym c.if-count-eq64.true) (first_ones 64)

pub returns-else-count-eq64 : goal.returns-else-count-eq64
returns-else-count-eq64 c =
    let below : c.args.count < 64 = let few = c.requires in let other = c.if-count-eq64.false in omega (arith, few, other) in
    subst (λ word. AreFirst c.args.count word) (ap (λ n. n - 1) (sym (one_shl c.args.count 64 below))) (first_ones c.args.count)
