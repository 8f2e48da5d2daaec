use Rattle.std.proofs.Common.{ℕ, ◌≡◌, ◌<◌, List, Contains, get_or, length, slice_get, Some, subst, sym, ap, ◌∙◌, arith}
use Rattle.cover_split.specs.StateCover.{block_at}
use Rattle.cover_split.specs.Expansion.{IsPair, pairs_of}
use Rattle.cover_split.specs.Inner.Rows.{AreRowsBelow, IsPlaceOf}
use Rattle.cover_split.specs.Laws.Pairs.{length-pairs_of, pair_has}
use Rattle.cover_split.proofs.RowLemmas.{no_rows, rows_more}
use Rattle.cover_split.proofs.rows.rows_of_pairs.Goals as goal

-- the pair that is read
read : (blocks : List (List ℕ)) (pairs : List (ℕ × ℕ)) (i : ℕ) (pair : ℕ × ℕ) → pairs ≡ pairs_of blocks → slice_get pairs i ≡ Some pair → IsPair blocks i pair.0 pair.1
read blocks pairs i pair same there = subst (λ (ps : List (ℕ × ℕ)). slice_get ps i ≡ Some pair) same there

-- the place of its state
placed : (blocks : List (List ℕ)) (i j s place : ℕ) (states : List ℕ) → states ≡ block_at blocks j → IsPair blocks i j s → place < length states → get_or states place 0 ≡ s → IsPlaceOf blocks i j place
placed blocks i j s place states same pair within is = record {
  within = omega (arith, within, ap length same);
  pair = subst (IsPair blocks i j) (sym is ∙ ap (λ (xs : List ℕ). get_or xs place 0) same) pair;
}

pub loop-i-init : goal.loop-i-init
loop-i-init c = subst (AreRowsBelow c.args.m.now c.args.blocks.now 0) (sym c.new-rows.ensures) (no_rows c.args.m.now c.args.blocks.now)

pub loop-i-preserved : goal.loop-i-preserved
loop-i-preserved c = rows_more c.args.m.now c.args.blocks.now c.loop-i.i c.loop-i.rows c.add_rows.new.rows c.loop-i.invariant c.in_ok-add_rows.ensures

pub returns : goal.returns
returns c =
    let all : c.loop-i.i ≡ length c.args.pairs.now = omega (arith, c.loop-i-test.false, c.loop-i.auto.i-end) in
    subst (λ (n : ℕ). AreRowsBelow c.args.m.now c.args.blocks.now n c.loop-i.rows) all c.loop-i.invariant

pub overflow_cast-at : goal.overflow_cast-at
overflow_cast-at c = omega (arith, c.loop-i-test.true, ap length c.requires.pairs, length-pairs_of c.args.blocks.now, c.requires.cover.few)

pub states_at-requires : goal.states_at-requires
states_at-requires c =
    let pair = read c.args.blocks.now c.args.pairs.now c.loop-i.i c.pair_at-block.result c.requires.pairs c.pair_at-block.ensures in
    omega (arith, (pair_has c.args.blocks.now c.loop-i.i c.pair_at-block.result.0 c.pair_at-block.result.1 pair).0)

pub place_in-requires : goal.place_in-requires
place_in-requires c =
    let pair = read c.args.blocks.now c.args.pairs.now c.loop-i.i c.pair_at-block.result c.requires.pairs c.pair_at-block.ensures in
    subst (λ (xs : List ℕ). Contains xs c.pair_at-block.result.1) (sym (c.states_at.ensures ∙ ap (block_at c.args.blocks.now) c.from.ensures)) (pair_has c.args.blocks.now c.loop-i.i c.pair_at-block.result.0 c.pair_at-block.result.1 pair).1

pub joints_at-joints-requires : goal.joints_at-joints-requires
joints_at-joints-requires c =
    let pair = read c.args.blocks.now c.args.pairs.now c.loop-i.i c.pair_at-block.result c.requires.pairs c.pair_at-block.ensures in
    omega (arith, (pair_has c.args.blocks.now c.loop-i.i c.pair_at-block.result.0 c.pair_at-block.result.1 pair).0, c.requires.count)

pub add_rows-requires-clause-at : goal.add_rows-requires-clause-at
add_rows-requires-clause-at c =
    let pair = read c.args.blocks.now c.args.pairs.now c.loop-i.i c.pair_at-block.result c.requires.pairs c.pair_at-block.ensures in
    placed c.args.blocks.now c.loop-i.i c.pair_at-block.result.0 c.pair_at-block.result.1 c.place_in.result c.states_at.result.now (c.states_at.ensures ∙ ap (block_at c.args.blocks.now) c.from.ensures) pair c.place_in.ensures.within c.place_in.ensures.state

pub add_rows-requires-clause-joints : goal.add_rows-requires-clause-joints
add_rows-requires-clause-joints c = c.requires.lists.right c.pair_at-block.result.0 c.joints_at-joints.result.now (ap (λ (j : ℕ). slice_get c.args.lists.now j) (sym c.from-in-loop-i.ensures) ∙ c.joints_at-joints.ensures)

pub add_rows-requires-clause-lead : goal.add_rows-requires-clause-lead
add_rows-requires-clause-lead c = c.requires.lists.lead c.pair_at-block.result.0 c.joints_at-joints.result.now (ap (λ (j : ℕ). slice_get c.args.lists.now j) (sym c.from-in-loop-i.ensures) ∙ c.joints_at-joints.ensures)
