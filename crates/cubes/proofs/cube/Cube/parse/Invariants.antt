use Rattle.std.proofs.Common.{◌≡◌, ℕ, ◌<◌, ◌^◌, bit_and, take, map, get_or}
use Rattle.cubes.specs.Field.{IsCharacter, byte_of, characters}
use Rattle.cubes.proofs.cube.Cube.parse.Given as goal

abbrev pub invariant-loop-place : goal.invariant-loop-place
invariant-loop-place l = record {
  spelled : take l.place l.text ≡ map byte_of (characters l.place l.care l.value);
  below : l.care < 2 ^ l.place;
  value_below : l.value < 2 ^ l.place;
  inside : bit_and l.care l.value ≡ l.value;
  good : (i : ℕ) → i < l.place → IsCharacter (get_or l.text i 0);
}
