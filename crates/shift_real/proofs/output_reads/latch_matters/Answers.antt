use Rattle.std.proofs.Common.{length, arith}
use Rattle.shift_real.proofs.Flips.{few_contents, flip_below}
use Rattle.shift_real.proofs.output_reads.latch_matters.Goals as goal

pub offset_bounds-classes-number-in-loop-number : goal.offset_bounds-classes-number-in-loop-number
offset_bounds-classes-number-in-loop-number c =
    omega (
      arith,
      flip_below (length c.args.classes.now) c.loop-number.number c.args.bits c.args.latch c.requires.size c.loop-number-test.true c.requires.latch c.requires.short,
      few_contents (length c.args.classes.now) c.args.bits c.requires.size c.requires.short,
    )

pub bounds-classes-number-in-loop-number : goal.bounds-classes-number-in-loop-number
bounds-classes-number-in-loop-number c =
    flip_below (length c.args.classes.now) c.loop-number.number c.args.bits c.args.latch c.requires.size c.loop-number-test.true c.requires.latch c.requires.short
