use Rattle.std.proofs.Common.{◌<◌, ℕ, List, length, refl, sym, subst, arith}
use Rattle.partition.specs.Laws.Labels.{blocks_of-le}
use Rattle.partition.specs.Laws.FirstAppearance.{IsNumbering, numbering_none}
use Rattle.io_pairs.specs.Inner.Marks.{seen_in}
use Rattle.io_pairs.proofs.Marking.{Takes, marks_kept, marks_step, marks_turned, none_seen}
use Rattle.io_pairs.proofs.marks.numbered.Goals as goal

pub loop-value-init : goal.loop-value-init
loop-value-init c = record {
  so_far = subst (λ (xs : List ℕ). IsNumbering c.args.values.now 0 (seen_in c.args.turn c.args.marks.now) xs 0) (sym c.in_ok-classes.ensures.items)
      (numbering_none c.args.values.now (seen_in c.args.turn c.args.marks.now) (none_seen c.args.turn c.args.marks.now c.requires.marks));
  marked = marks_turned c.args.turn c.args.marks.now c.requires.marks;
  room = refl;
}

pub class_for-class-requires-clause-value : goal.class_for-class-requires-clause-value
class_for-class-requires-clause-value c = omega (arith, c.from.ensures, c.requires.room c.loop-value.value-index c.loop-value-test.true, c.loop-value.invariant.room)

pub class_for-class-requires-clause-room : goal.class_for-class-requires-clause-room
class_for-class-requires-clause-room c =
    let so_far = c.loop-value.invariant.so_far in
    omega (arith, blocks_of-le c.loop-value.classes.items so_far.numbered, so_far.size, so_far.count, c.requires.count.1, c.loop-value-test.true)

pub loop-value-preserved : goal.loop-value-preserved
loop-value-preserved c =
    let turn = c.args.turn in
    let value = c.from.result in
    let took : Takes turn c.loop-value.marks c.class_for-class.new.marks value c.loop-value.count c.class_for-class.new.count c.class_for-class.result =
    record { known = c.class_for-class.ensures.known; fresh = c.class_for-class.ensures.fresh } in
    let room : value < length c.loop-value.marks = omega (arith, c.from.ensures, c.requires.room c.loop-value.value-index c.loop-value-test.true, c.loop-value.invariant.room) in
    record {
      so_far =
          rw c.in_ok-push.ensures.items
          (marks_step c.args.values.now c.loop-value.value-index turn value c.loop-value.marks c.class_for-class.new.marks c.loop-value.classes.items c.loop-value.count c.class_for-class.new.count c.class_for-class.result
          c.from.ensures c.loop-value.invariant.so_far room took);
      marked = marks_kept turn value c.loop-value.marks c.class_for-class.new.marks c.loop-value.count c.class_for-class.new.count c.class_for-class.result c.loop-value.invariant.marked room took;
      room = omega arith;
    }
