use Rattle.std.proofs.Common.{◌≡◌, get_or, arith, below_more, refl}
use Rattle.cubes.proofs.Reading.{value_kept, spelled-push, byte_is_character, below-push, care_below, value_below}
use Rattle.cubes.specs.Inner.Character.{bit_of, care_of, value_of}
use Rattle.cubes.specs.Field.{characters, byte_of}
use Rattle.cubes.proofs.cube.Cube.parse.Goals as goal

pub loop-place-init : goal.loop-place-init
unfolding characters
loop-place-init c = record {
  spelled = refl;
  below = omega arith;
  value_below = omega arith;
  inside = refl;
  good = λ i lt. absurd (omega (arith, lt));
}

pub loop-place-preserved : goal.loop-place-preserved
loop-place-preserved c =
    let here : byte_of (bit_of c.in-Some.character) ≡ get_or c.args.text.now c.loop-place.place 0 = c.in-Some.ensures.some in
    rw (c.care.ensures, c.value.ensures) (record {
      spelled = spelled-push c.args.text.now c.loop-place.place c.loop-place.care c.loop-place.value c.in-Some.character (omega arith) c.loop-place.invariant.spelled here;
      below = below-push c.loop-place.care (care_of c.in-Some.character) c.loop-place.place (care_below c.in-Some.character) c.loop-place.invariant.below;
      value_below = below-push c.loop-place.value (value_of c.in-Some.character) c.loop-place.place (value_below c.in-Some.character) c.loop-place.invariant.value_below;
      inside = value_kept c.loop-place.care c.loop-place.value c.in-Some.character c.loop-place.invariant.inside;
      good = below_more _ _ c.loop-place.invariant.good (byte_is_character c.in-Some.character _ here);
    })
