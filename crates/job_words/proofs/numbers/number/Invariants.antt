use Rattle.std.proofs.Common.{◌≡◌, ◌<◌, ◌^◌, take, drop}
use Rattle.std.specs.Str.{all_ascii_digits}
use Rattle.std.specs.Str.Parse.{digits_value}
use Rattle.job_words.proofs.numbers.number.Given as goal

abbrev pub invariant-loop-byte : goal.invariant-loop-byte
invariant-loop-byte l = record {
  small : l.value < 10 ^ l.byte-index;
  value : l.value ≡ digits_value 10 (take l.byte-index l.word);
  left : all_ascii_digits (drop l.byte-index l.word) ≡ all_ascii_digits l.word;
}
