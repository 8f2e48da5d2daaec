use Rattle.std.proofs.Common.{below_more, subst, sym, ◌∙◌, arith}
use Rattle.std.proofs.lemmas.Bool.{false≢true}
use Rattle.cover_split.specs.StateCover.{block_at}
use Rattle.cover_split.specs.Inner.Joints.{HasEachNext}
use Rattle.cover_split.proofs.joint.first_target.Goals as goal

pub loop-j-preserved : goal.loop-j-preserved
loop-j-preserved c =
    below_more (λ k. HasEachNext c.args.pieces.now (block_at c.args.blocks.now k) → ⊥) _ c.loop-j.invariant
    (λ has. false≢true (sym c.if-has_each_next.false ∙ c.has_each_next.ensures.1 (subst (HasEachNext c.args.pieces.now) (sym c.states_at.ensures) has)))

pub returns-then-has_each_next : goal.returns-then-has_each_next
returns-then-has_each_next c = record {
  block = c.loop-j-test.true;
  has = subst (HasEachNext c.args.pieces.now) c.states_at.ensures (c.has_each_next.ensures.0 c.if-has_each_next.true);
  first = c.loop-j.invariant;
}

pub returns : goal.returns
returns c j within = c.loop-j.invariant j (omega arith)
