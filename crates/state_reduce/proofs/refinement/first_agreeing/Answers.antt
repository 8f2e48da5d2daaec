use Rattle.std.proofs.Common.{◌+◌, ℕ, List, length, sym, subst, ◌∙◌, arith}
use Rattle.std.proofs.lemmas.Bool.{true≢false}
use Rattle.kiss_file.specs.declared.file.KissFile.{KissFile}
use Rattle.partition.specs.RelationBlocks.{IsSearched}
use Rattle.partition.specs.Laws.Splitting.{searched_first, searched_later}
use Rattle.state_reduce.specs.Inner.Refinement.{AgreeAlways}
use Rattle.state_reduce.proofs.Rounds.{agree_on}
use Rattle.state_reduce.proofs.refinement.first_agreeing.Goals as goal
use Rattle.state_reduce.proofs.refinement.first_agreeing.Goals.{then-from-blocks+else-outputs_agree, else-from-blocks}

pub loop-t-preserved : goal.loop-t-preserved
loop-t-preserved c =
    let F : KissFile = c.args.m.now in
    let p : List ℕ = c.args.so_far.now in
    let s : ℕ = c.args.s in
    let t : ℕ = c.loop-t.t in
    elim c.if-from-blocks.branch [
      | then-from-blocks+else-outputs_agree w ↦
          subst (λ (n : ℕ). IsSearched (AgreeAlways F) p s (t + 1) n) (sym w.blocks-is) (searched_first (AgreeAlways F) p s t c.loop-t.blocks (omega (arith, c.requires.lawful.length)) (sym c.label.ensures ∙ sym c.from.ensures ∙ w.if-from-blocks.true) (λ like. true≢false (sym (w.outputs_agree.ensures.1 like) ∙ w.if-outputs_agree.false)) c.loop-t.invariant)
      | else-from-blocks w ↦
          subst (λ (n : ℕ). IsSearched (AgreeAlways F) p s (t + 1) n) (sym w.blocks-is) (searched_later (AgreeAlways F) (agree_on F) (length F.states) p s t c.loop-t.blocks c.requires.lawful c.requires.related (omega (arith, c.requires.lawful.length)) (λ same. w.if-from-blocks.false (c.from.ensures ∙ c.label.ensures ∙ same)) c.loop-t.invariant)
    ]
