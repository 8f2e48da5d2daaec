use Rattle.std.proofs.Common.{◌≡◌, ℕ, length, refl, subst, arith}
use Rattle.decomposition.specs.Inner.Labels.{AreLabelled}
use Rattle.decomposition.proofs.Labelling.{block_small, labelled_all, labelled_more}
use Rattle.decomposition.proofs.labels.labels_by.Goals as goal

pub overflow_cast-block : goal.overflow_cast-block
overflow_cast-block c =
    omega (arith, c.requires.1, block_small c.args.words.now c.args.set c.loop-word.seen.items c.loop-word.labels.items c.loop-word.word-index _ c.in_ok-block.block c.block_of.new.seen.items c.loop-word.invariant c.in_ok-block.ensures)

pub loop-word-preserved : goal.loop-word-preserved
loop-word-preserved c =
    labelled_more c.args.words.now c.args.set c.loop-word.seen.items c.loop-word.labels.items c.loop-word.word-index _ c.in_ok-block.block c.block_of.new.seen.items c.push.new.self.items
    c.loop-word.invariant refl c.in_ok-block.ensures c.in_ok-push.ensures.items

pub returns : goal.returns
returns c =
    let all : c.loop-word.word-index ≡ length c.args.words.now = omega arith in
    labelled_all c.args.words.now c.args.set c.loop-word.seen.items c.loop-word.labels.items c.requires
    (subst (λ (k : ℕ). AreLabelled c.args.words.now c.args.set c.loop-word.seen.items c.loop-word.labels.items k) all c.loop-word.invariant)
