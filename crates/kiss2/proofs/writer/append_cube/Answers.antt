use Rattle.std.proofs.Common.{◌∙◌, refl, arith}
use Rattle.kiss2.proofs.Written.{cube_done, cube_more}
use Rattle.kiss2.proofs.writer.append_cube.Goals as goal

pub loop-place-preserved : goal.loop-place-preserved
loop-place-preserved c = (
  omega arith,
  cube_more c.loop-place.text.items c.push.new.self.items c.loop-place.place c.args.cube.now.care c.args.cube.now.value c.character_byte.result (omega arith) c.in_ok-push.ensures.items
      (c.character_byte.ensures ∙ rw (c.has_bit-given.ensures, c.has_bit.ensures, c.from.ensures, c.from-in-loop-place.ensures) refl) ∙ c.loop-place.invariant.1,
)

pub returns : goal.returns
returns c = cube_done c.loop-place.text.items _ c.loop-place.place c.args.cube.now.care c.args.cube.now.value (omega arith) c.loop-place.invariant.1
