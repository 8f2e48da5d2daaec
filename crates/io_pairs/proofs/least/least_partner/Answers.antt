use Rattle.std.proofs.Common.{ℕ, subst, arith}
use Rattle.io_pairs.specs.Inner.Families.{Ties, functions_of}
use Rattle.io_pairs.proofs.Tying.{least_all, least_more}
use Rattle.io_pairs.proofs.least.least_partner.Goals as goal

pub loop-y-preserved : goal.loop-y-preserved
loop-y-preserved c =
    let family = c.args.family.now in
    let functions = functions_of family in
    least_more family.values functions c.args.p.now c.loop-y.y c.loop-y.q c.tie.new.q (omega arith) c.loop-y.invariant
    (subst (λ (first : ℕ). Ties functions first c.loop-y.y c.loop-y.q c.tie.new.q) c.least_of-first.ensures.least c.tie.ensures)

pub returns : goal.returns
returns c =
    let family = c.args.family.now in
    least_all family.members family.values (functions_of family) c.args.p.now c.loop-y.y c.loop-y.q c.requires.members c.loop-y-test.false c.loop-y.invariant
