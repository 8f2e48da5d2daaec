use Rattle.std.proofs.Common.{ℕ, ◌++◌, List, map, take, sym, ap, ◌∙◌, arith}
use Rattle.cover_split.specs.Expansion.{pairs_of}
use Rattle.cover_split.specs.Laws.Pairs.{pairs_of-none, pairs_of-take-all, pairs_of-take-more}
use Rattle.cover_split.proofs.pairs.pairs_of.Goals as goal

pub loop-j-init : goal.loop-j-init
loop-j-init c = c.new-pairs.ensures.items ∙ sym pairs_of-none

pub loop-j-preserved : goal.loop-j-preserved
loop-j-preserved c =
    let blocks = c.args.blocks.now in
    let j = c.loop-j.j in
    c.in_ok-add_pairs.ensures ∙ ap (λ (xs : List (ℕ × ℕ)). xs ++ map (λ s. (j, s)) c.states_at.result.now) c.loop-j.invariant
    ∙ ap (λ (states : List ℕ). pairs_of (take j blocks) ++ map (λ s. (j, s)) states) c.states_at.ensures ∙ sym (pairs_of-take-more blocks j (omega arith))

pub returns : goal.returns
returns c = c.loop-j.invariant ∙ pairs_of-take-all c.args.blocks.now c.loop-j.j (omega arith)
