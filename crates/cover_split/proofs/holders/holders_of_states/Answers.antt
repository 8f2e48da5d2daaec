use Rattle.std.proofs.Common.{ℕ, ◌≡◌, ◌+◌, length, subst, sym, ap, ◌∙◌, arith}
use Rattle.std.proofs.lemmas.List.{length_push}
use Rattle.cover_split.specs.Inner.Holders.{AreHolders}
use Rattle.cover_split.proofs.Holding.{lists_more}
use Rattle.cover_split.proofs.holders.holders_of_states.Goals as goal

pub loop-s-preserved : goal.loop-s-preserved
loop-s-preserved c =
    let blocks = c.args.blocks.now in
    let lists = c.loop-s.lists.items in
    let size : length lists ≡ c.loop-s.s = c.loop-s.invariant.size in
    record {
      size = ap length c.in_ok-push.ensures.items ∙ length_push lists c.in_ok-holders_of.field-0 ∙ ap (λ (k : ℕ). k + 1) size;
      right = λ t within.
          lists_more blocks c.args.n lists c.push.new.self.items c.in_ok-holders_of.field-0
          (λ u below. c.loop-s.invariant.right u (omega (arith, size)))
          (subst (λ (k : ℕ). AreHolders blocks k (length blocks) c.in_ok-holders_of.field-0) (sym size) c.in_ok-holders_of.ensures) c.in_ok-push.ensures.items t (omega (arith, size));
    }
