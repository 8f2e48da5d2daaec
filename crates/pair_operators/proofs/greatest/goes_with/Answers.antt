use Rattle.std.proofs.Common.{◌+◌, ℕ, List, length, sym, subst, ◌∙◌, arith}
use Rattle.std.proofs.lemmas.Bool.{true≢false}
use Rattle.kiss_file.specs.declared.file.KissFile.{KissFile}
use Rattle.partition.specs.RelationBlocks.{IsSearched}
use Rattle.partition.specs.Laws.Splitting.{searched_first, searched_later}
use Rattle.pair_operators.specs.NextBlocks.{Goes}
use Rattle.pair_operators.specs.Laws.Going.{goes_on}
use Rattle.pair_operators.proofs.greatest.goes_with.Goals as goal
use Rattle.pair_operators.proofs.greatest.goes_with.Goals.{then-from-blocks+else-go_together, else-from-blocks}

pub loop-t-preserved : goal.loop-t-preserved
loop-t-preserved c =
    let F : KissFile = c.args.m.now in
    let p : List ℕ = c.args.p.now in
    let q : List ℕ = c.args.q.now in
    let s : ℕ = c.args.s in
    let t : ℕ = c.loop-t.t in
    elim c.if-from-blocks.branch [
      | then-from-blocks+else-go_together w ↦
          subst (λ (n : ℕ). IsSearched (Goes F q) p s (t + 1) n) (sym w.blocks-is) (searched_first (Goes F q) p s t c.loop-t.blocks (omega (arith, c.requires.left.length)) (sym c.label.ensures ∙ sym c.from.ensures ∙ w.if-from-blocks.true) (λ goes. true≢false (sym (w.go_together.ensures.1 goes) ∙ w.if-go_together.false)) c.loop-t.invariant)
      | else-from-blocks w ↦
          subst (λ (n : ℕ). IsSearched (Goes F q) p s (t + 1) n) (sym w.blocks-is) (searched_later (Goes F q) (goes_on F q) (length F.states) p s t c.loop-t.blocks c.requires.left c.requires.related (omega (arith, c.requires.left.length)) (λ same. w.if-from-blocks.false (c.from.ensures ∙ c.label.ensures ∙ same)) c.loop-t.invariant)
    ]
