use Rattle.std.proofs.Common.{◌≡◌, length, refl, subst, ℕ, arith}
use Rattle.partition.specs.Laws.Labels.{label-le, label-lt-blocks_of}
use Rattle.partition.proofs.Merging.{IsMerging, merging_none, merging_new, merging_old, merging_all, first_within}
use Rattle.partition.proofs.bounds.tie_blocks.Goals as goal
use Rattle.partition.proofs.bounds.tie_blocks.Goals.{then-block-found, else-block-found}

pub loop-s-init : goal.loop-s-init
loop-s-init c = merging_none c.args.p.now c.args.q.now _ c.args.numbers.now refl c.requires.count (λ k within. c.requires.own k (omega arith))

pub bounds-first-block : goal.bounds-first-block
bounds-first-block c = omega (arith, label-le c.args.q.now c.requires.q.numbered c.loop-s.s (omega arith))

pub bounds-first-block-else-block-found : goal.bounds-first-block-else-block-found
bounds-first-block-else-block-found c = omega (arith, label-le c.args.q.now c.requires.q.numbered c.loop-s.s (omega arith))

pub bounds-numbers-first : goal.bounds-numbers-first
bounds-numbers-first c =
    omega (arith, first_within c.args.p.now c.args.q.now c.loop-s.first _ c.loop-s.numbers c.loop-s.s c.requires.q (omega arith) c.loop-s.invariant c.if-block-found.false)

pub bounds-numbers-p : goal.bounds-numbers-p
bounds-numbers-p c = omega (arith, label-lt-blocks_of c.args.p.now c.loop-s.s (omega arith))

pub loop-s-preserved : goal.loop-s-preserved
loop-s-preserved c =
    elim c.if-block-found.branch [
      | then-block-found w ↦ rw (w.numbers-is, w.first-is, w.found-is) (merging_new c.args.p.now c.args.q.now c.loop-s.first c.loop-s.found c.loop-s.numbers c.loop-s.s c.requires.q.numbered (omega arith) (omega arith) c.loop-s.invariant w.if-block-found.true)
      | else-block-found w ↦ rw (w.numbers-is, w.first-is, w.found-is) (merging_old c.args.p.now c.args.q.now c.loop-s.first c.loop-s.found c.loop-s.numbers w.renumber.new.numbers c.loop-s.s c.requires.q (omega arith) c.loop-s.invariant w.if-block-found.false (omega arith) w.renumber.ensures)
    ]

pub returns : goal.returns
returns c =
    let end : c.loop-s.s ≡ length c.args.p.now = omega arith in
    merging_all c.args.p.now c.args.q.now c.loop-s.first c.loop-s.found c.loop-s.numbers c.requires.q.length (subst (λ (s : ℕ). IsMerging c.args.p.now c.args.q.now c.loop-s.first c.loop-s.found c.loop-s.numbers s) end c.loop-s.invariant)
