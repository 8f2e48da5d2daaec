use Rattle.std.proofs.Common.{◌+◌, ℕ, List, length, sym, subst, ◌∙◌, arith}
use Rattle.std.proofs.lemmas.Bool.{true≢false}
use Rattle.kiss_file.specs.declared.file.KissFile.{KissFile}
use Rattle.partition.specs.RelationBlocks.{IsSearched}
use Rattle.partition.specs.Laws.Splitting.{searched_first, searched_later}
use Rattle.state_reduce.specs.Inner.Refinement.{StayTogether}
use Rattle.state_reduce.proofs.Rounds.{stay_on}
use Rattle.state_reduce.proofs.refinement.first_staying.Goals as goal
use Rattle.state_reduce.proofs.refinement.first_staying.Goals.{then-from-blocks+else-stay_together, else-from-blocks}

pub loop-t-preserved : goal.loop-t-preserved
loop-t-preserved c =
    let F : KissFile = c.args.m.now in
    let p : List ℕ = c.args.so_far.now in
    let s : ℕ = c.args.s in
    let t : ℕ = c.loop-t.t in
    elim c.if-from-blocks.branch [
      | then-from-blocks+else-stay_together w ↦
          subst (λ (n : ℕ). IsSearched (StayTogether F c.args.p.now) p s (t + 1) n) (sym w.blocks-is) (searched_first (StayTogether F c.args.p.now) p s t c.loop-t.blocks (omega (arith, c.requires.lawful.length)) (sym c.label.ensures ∙ sym c.from.ensures ∙ w.if-from-blocks.true) (λ like. true≢false (sym (w.stay_together.ensures.1 like) ∙ w.if-stay_together.false)) c.loop-t.invariant)
      | else-from-blocks w ↦
          subst (λ (n : ℕ). IsSearched (StayTogether F c.args.p.now) p s (t + 1) n) (sym w.blocks-is) (searched_later (StayTogether F c.args.p.now) (stay_on F c.args.p.now) (length F.states) p s t c.loop-t.blocks c.requires.lawful c.requires.related (omega (arith, c.requires.lawful.length)) (λ same. w.if-from-blocks.false (c.from.ensures ∙ c.label.ensures ∙ same)) c.loop-t.invariant)
    ]
