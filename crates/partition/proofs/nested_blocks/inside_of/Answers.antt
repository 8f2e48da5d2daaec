use Rattle.std.proofs.Common.{◌≡◌, ◌<◌, ℕ, List, length, get_or, set, refl, arith}
use Rattle.std.proofs.lemmas.List.{get_or-replicate, get_or-set_same}
use Rattle.partition.specs.Laws.Labels.{label-le}
use Rattle.partition.proofs.Nesting.{nesting_none, nesting_new, nesting_old, counts_small}
use Rattle.partition.proofs.nested_blocks.inside_of.Goals as goal
use Rattle.partition.proofs.nested_blocks.inside_of.Goals.{then-block-found, else-block-found}

pub loop-s-init : goal.loop-s-init
loop-s-init c = rw c.in_ok-labels.ensures.items (nesting_none c.args.p.now c.args.q.now _ _ refl refl (λ block within. get_or-replicate {A = ℕ} 256 block 0 0 within))

pub bounds-counts-outer : goal.bounds-counts-outer
bounds-counts-outer c = omega (arith, label-le c.args.p.now c.requires.p.numbered c.loop-s.s (omega arith))

pub bounds-inner-block : goal.bounds-inner-block
bounds-inner-block c = omega (arith, label-le c.args.q.now c.requires.q.numbered c.loop-s.s (omega arith))

pub bounds-counts-outer-then-block-found : goal.bounds-counts-outer-then-block-found
bounds-counts-outer-then-block-found c = omega (arith, label-le c.args.p.now c.requires.p.numbered c.loop-s.s (omega arith))

pub overflow_add-counts : goal.overflow_add-counts
overflow_add-counts c =
    let block : ℕ = get_or c.args.p.now c.loop-s.s 0 in
    let inside : block < 256 = omega (arith, label-le c.args.p.now c.requires.p.numbered c.loop-s.s (omega arith)) in
    omega (arith, counts_small _ _ _ _ _ _ _ _ block inside c.loop-s.invariant)

pub bounds-counts-outer-then-block-found-2 : goal.bounds-counts-outer-then-block-found-2
bounds-counts-outer-then-block-found-2 c = omega (arith, label-le c.args.p.now c.requires.p.numbered c.loop-s.s (omega arith))

pub bounds-inner-block-in-loop-s : goal.bounds-inner-block-in-loop-s
bounds-inner-block-in-loop-s c = omega (arith, label-le c.args.q.now c.requires.q.numbered c.loop-s.s (omega arith))

pub bounds-inner-block-in-loop-s-2 : goal.bounds-inner-block-in-loop-s-2
bounds-inner-block-in-loop-s-2 c = omega (arith, label-le c.args.q.now c.requires.q.numbered c.loop-s.s (omega arith))

pub loop-s-preserved : goal.loop-s-preserved
loop-s-preserved c =
    let p : List ℕ = c.args.p.now in
    let q : List ℕ = c.args.q.now in
    let s : ℕ = c.loop-s.s in
    let x : ℕ = get_or c.loop-s.counts (get_or p s 0) 0 in
    let room : get_or q s 0 < length c.loop-s.inner = omega (arith, label-le q c.requires.q.numbered s (omega arith), c.loop-s.invariant.inner_room) in
    let given : get_or (set c.loop-s.inner (get_or q s 0) x) (get_or q s 0) 0 ≡ x = get_or-set_same c.loop-s.inner (get_or q s 0) x 0 room in
    elim c.if-block-found.branch [
      | then-block-found w ↦ rw (c.in_ok-push.ensures.items, c.max-blocks.ensures, w.counts-is, w.inner-is, w.found-is, given) (nesting_new p q c.loop-s.counts c.loop-s.inner c.loop-s.found c.loop-s.labels.items _ s c.requires.p c.requires.q (omega arith) c.loop-s.invariant w.if-block-found.true)
      | else-block-found w ↦ rw (c.in_ok-push.ensures.items, c.max-blocks.ensures, w.counts-is, w.inner-is, w.found-is) (nesting_old p q c.loop-s.counts c.loop-s.inner c.loop-s.found c.loop-s.labels.items _ s c.requires.q c.requires.le (omega arith) c.loop-s.invariant w.if-block-found.false)
    ]
