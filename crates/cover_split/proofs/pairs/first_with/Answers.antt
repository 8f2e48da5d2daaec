use Rattle.std.proofs.Common.{ℕ, List, Contains, below_more, subst, sym, ◌∙◌, arith}
use Rattle.std.proofs.lemmas.Bool.{false≢true}
use Rattle.cover_split.specs.StateCover.{Has}
use Rattle.cover_split.proofs.pairs.first_with.Goals as goal

pub loop-j-preserved : goal.loop-j-preserved
loop-j-preserved c =
    below_more (λ k. Has c.args.blocks.now k c.args.s → ⊥) c.loop-j.j c.loop-j.invariant
    (λ has. false≢true (sym c.if-has_state.false ∙ c.has_state.ensures.1 (subst (λ (xs : List ℕ). Contains xs c.args.s) (sym c.states_at.ensures) has)))

pub unreachable-requires : goal.unreachable-requires
unreachable-requires c =
    let it = c.requires.covered in c.loop-j.invariant it.0 (omega (arith, it.1, c.loop-j-test.false)) it.2
