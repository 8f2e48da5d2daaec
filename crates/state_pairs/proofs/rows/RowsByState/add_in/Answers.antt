use Rattle.std.proofs.Common.{ℕ, All, ◌∙◌, refl, subst, sym}
use Rattle.state_rows.specs.Bundles.{IsFit}
use Rattle.state_pairs.proofs.NamedIn.{added_all, added_first, added_next, mask_less}
use Rattle.state_pairs.proofs.rows.RowsByState.add_in.Goals as goal

pub loop-place-init : goal.loop-place-init
loop-place-init c = record {
  pairs = added_first c.args.self.now.rows c.args.bundle.now c.args.cube.now c.args.next c.requires.bundle c.meeting-marks.result c.args.pairs.now.pairs
      (c.meeting-marks.ensures c.args.self.now.rows c.requires.bundle (subst (λ (w : ℕ). All (IsFit w) c.args.self.now.rows) (sym c.requires.width) c.requires.fit));
  states = refl;
}

pub add_marked-requires-clause-place : goal.add_marked-requires-clause-place
add_marked-requires-clause-place c = c.loop-place.invariant.pairs.left.inside c.in-Some.place c.in-Some.ensures.first.marked

pub loop-place-preserved : goal.loop-place-preserved
loop-place-preserved c = record {
  pairs = added_next c.args.self.now.rows c.args.bundle.now c.args.cube.now c.args.next c.requires.bundle c.loop-place.marks c.in-Some.place c.take_first.new.marks
      c.in_ok-done.done c.args.pairs.now.pairs c.loop-place.pairs.pairs c.add_marked.new.pairs.pairs c.loop-place.invariant.pairs c.in-Some.ensures.taken
      c.in-Some.ensures.first.marked c.in_ok-done.ensures.pairs;
  states = c.in_ok-done.ensures.states ∙ c.loop-place.invariant.states;
}

pub loop-place-smaller : goal.loop-place-smaller
loop-place-smaller c = mask_less c.loop-place.marks c.take_first.new.marks c.in_ok-done.done c.in-Some.ensures.taken.less

pub returns-clause-pairs : goal.returns-clause-pairs
returns-clause-pairs c =
    added_all c.args.self.now.rows c.args.bundle.now c.args.cube.now c.args.next c.requires.bundle c.loop-place.marks c.args.pairs.now.pairs c.loop-place.pairs.pairs
    c.in_default.ensures.none c.loop-place.invariant.pairs
