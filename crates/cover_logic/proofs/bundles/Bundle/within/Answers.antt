use Rattle.std.proofs.Common.{arith}
use Rattle.cover_terms.specs.Laws.Bits.{bits_of_zero}
use Rattle.cover_logic.proofs.Literals.{within_none, within_more, within_all, within_empty}
use Rattle.cover_logic.proofs.bundles.Bundle.within.Goals as goal

pub loop-literal-init : goal.loop-literal-init
loop-literal-init c = within_none c.args.literals.now c.args.self.now.entries.items c.args.places

pub loop-literal-preserved : goal.loop-literal-preserved
loop-literal-preserved c =
    within_more c.args.literals.now c.loop-literal.literal-index _ c.args.self.now.entries.items c.args.places c.loop-literal.within c.having-within.result
    c.loop-literal-test.true c.loop-literal.invariant c.having-within.ensures

pub returns-then-within-eq0 : goal.returns-then-within-eq0
returns-then-within-eq0 c = λ row all.
    within_empty row c.args.literals.now c.loop-literal.literal-index c.args.self.now.entries.items c.args.places c.loop-literal.within all
    (let t = c.loop-literal-test.true in omega arith) (bits_of_zero c.loop-literal.within c.if-within-eq0.true) c.loop-literal.invariant

pub returns : goal.returns
returns c = λ row all.
    within_all row c.args.literals.now c.loop-literal.literal-index c.args.self.now.entries.items c.args.places c.loop-literal.within all
    (let t = c.loop-literal-test.false in omega arith) c.loop-literal.invariant
