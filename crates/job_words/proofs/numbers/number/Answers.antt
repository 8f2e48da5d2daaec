use Rattle.std.proofs.Common.{◌≡◌, ◌-◌, ◌^◌, ◌<◌, true, get_or, sym, ◌∙◌, arith}
use Rattle.std.specs.Char.{digit_value, is_ascii_digit}
use Rattle.std.proofs.lemmas.Int.Digits.{digits_value_more}
use Rattle.job_words.proofs.Digits.{digit_below-ascii, digit_value-ascii, digits_from, digits_room, digits_small}
use Rattle.job_words.proofs.numbers.number.Goals as goal

pub overflow_mul-value : goal.overflow_mul-value
overflow_mul-value c =
    let room : c.loop-byte.value < 10 ^ 8 = digits_room _ _ c.loop-byte.invariant.small (omega arith) in
    omega arith

pub overflow_add-value : goal.overflow_add-value
overflow_add-value c =
    let room : c.loop-byte.value < 10 ^ 8 = digits_room _ _ c.loop-byte.invariant.small (omega arith) in
    let here : get_or c.args.word.now c.loop-byte.byte-index 0 - 48 < 10 = digit_below-ascii _ (sym c.is_ascii_digit.ensures.value ∙ c.if-not-is_ascii_digit.false) in
    omega arith

pub loop-byte-preserved : goal.loop-byte-preserved
loop-byte-preserved c =
    let ch = get_or c.args.word.now c.loop-byte.byte-index 0 in
    let i = c.loop-byte.byte-index in
    let is : is_ascii_digit ch ≡ true = sym c.is_ascii_digit.ensures.value ∙ c.if-not-is_ascii_digit.false in
    let here : ch - 48 < 10 = digit_below-ascii ch is in
    let digit : c.from.result < 10 = omega arith in
    let same : digit_value ch ≡ ch - 48 = digit_value-ascii ch is in
    let more = digits_value_more 10 c.args.word.now i c.loop-byte-test.true in
    record {
      small = digits_small c.loop-byte.value i c.from.result c.loop-byte.invariant.small digit;
      value = omega (arith, c.loop-byte.invariant.value);
      left = digits_from c.args.word.now i c.loop-byte-test.true is ∙ c.loop-byte.invariant.left;
    }
