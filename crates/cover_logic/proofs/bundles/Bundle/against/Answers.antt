use Rattle.std.proofs.Common.{◌∙◌, ap, arith}
use Rattle.std.specs.Int.{bit_at}
use Rattle.std.proofs.lemmas.Nat.Bits.{bit_at_ones}
use Rattle.cover_logic.proofs.Literals.{against_none, against_more, against_all, against_full}
use Rattle.cover_logic.proofs.bundles.Bundle.against.Goals as goal

pub loop-literal-init : goal.loop-literal-init
loop-literal-init c = against_none c.args.literals.now c.args.self.now.entries.items

pub loop-literal-preserved : goal.loop-literal-preserved
loop-literal-preserved c =
    against_more c.args.literals.now c.loop-literal.literal-index _ c.args.self.now.entries.items c.loop-literal.against c.having-against.result c.loop-literal-test.true
    c.loop-literal.invariant c.having-against.ensures

pub returns-then-against : goal.returns-then-against
returns-then-against c = λ row all.
    let few = c.args.self.now.told.by_column.few in
    against_full row c.args.literals.now c.loop-literal.literal-index c.args.self.now.entries.items c.loop-literal.against all (let t = c.loop-literal-test.true in omega arith)
    (λ k below. ap (λ n. bit_at n k) c.if-against.true ∙ bit_at_ones 128 k (omega arith)) c.loop-literal.invariant

pub returns : goal.returns
returns c = λ row all. against_all row c.args.literals.now c.loop-literal.literal-index c.args.self.now.entries.items c.loop-literal.against all (let t = c.loop-literal-test.false in omega arith) c.loop-literal.invariant
