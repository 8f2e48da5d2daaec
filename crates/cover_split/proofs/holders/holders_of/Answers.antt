use Rattle.std.proofs.Common.{◌+◌, List, ℕ, Contains, subst, sym, ◌∙◌}
use Rattle.std.proofs.lemmas.Bool.{false≢true}
use Rattle.cover_split.specs.Inner.Holders.{AreHolders}
use Rattle.cover_split.proofs.Holding.{no_holder_more, no_holders, one_holder_more}
use Rattle.cover_split.proofs.holders.holders_of.Goals as goal
use Rattle.cover_split.proofs.holders.holders_of.Goals.{then-has_state+in_ok-push, else-has_state}

pub loop-j-init : goal.loop-j-init
loop-j-init c = subst (AreHolders c.args.blocks.now c.args.s 0) (sym c.new-holders.ensures) (no_holders c.args.blocks.now c.args.s)

pub loop-j-preserved : goal.loop-j-preserved
loop-j-preserved c =
    let blocks = c.args.blocks.now in
    let s = c.args.s in
    let j = c.loop-j.j in
    elim c.if-has_state.branch [
      | then-has_state+in_ok-push w ↦
          subst (AreHolders blocks s (j + 1)) (sym (w.holders-is ∙ w.in_ok-push.ensures.ok))
          (one_holder_more blocks s j c.loop-j.holders c.loop-j.invariant (subst (λ (xs : List ℕ). Contains xs s) c.states_at.ensures (c.has_state.ensures.0 w.if-has_state.true)))
      | else-has_state w ↦
          subst (AreHolders blocks s (j + 1)) (sym w.holders-is)
          (no_holder_more blocks s j c.loop-j.holders c.loop-j.invariant
          (λ has. false≢true (sym w.if-has_state.false ∙ c.has_state.ensures.1 (subst (λ (xs : List ℕ). Contains xs s) (sym c.states_at.ensures) has))))
    ]
