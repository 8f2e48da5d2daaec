use Rattle.std.proofs.Common.{◌≡◌, ◌-◌, ◌<◌, ◌≤◌, true, length, get_or, take, ap, sym, ◌∙◌, arith}
use Rattle.std.specs.Char.{is_ascii_digit}
use Rattle.std.specs.List.{list_all}
use Rattle.std.specs.Str.Parse.{digits_value}
use Rattle.std.proofs.lemmas.List.{take_all}
use Rattle.kiss2.proofs.Digits.{all_more, digit_below, digit_is, digit_room, digits_more, not_all}
use Rattle.kiss2.proofs.words.value_of_digits.Goals as goal

pub overflow_sub-byte : goal.overflow_sub-byte
overflow_sub-byte c =
    let d = digit_is (get_or c.args.field.now c.loop-byte.byte-index 0) (sym c.is_ascii_digit.ensures.value ∙ c.if-not-is_ascii_digit.false) in
    let low = d.low in
    omega arith

pub overflow_mul-number : goal.overflow_mul-number
overflow_mul-number c =
    let place = c.loop-byte.byte-index in
    let inside : place < length c.args.field.now = omega arith in
    omega (arith, digit_room c.loop-byte.number place 0 c.loop-byte.invariant.2 (omega arith) (omega arith))

pub overflow_add-number : goal.overflow_add-number
overflow_add-number c =
    let place = c.loop-byte.byte-index in
    let inside : place < length c.args.field.now = omega arith in
    let d = digit_is (get_or c.args.field.now place 0) (sym c.is_ascii_digit.ensures.value ∙ c.if-not-is_ascii_digit.false) in
    let high = d.high in
    omega (arith, digit_room c.loop-byte.number place (get_or c.args.field.now place 0 - 48) c.loop-byte.invariant.2 (omega arith) (omega arith))

pub loop-byte-preserved : goal.loop-byte-preserved
loop-byte-preserved c =
    let place = c.loop-byte.byte-index in
    let inside : place < length c.args.field.now = omega arith in
    let is : is_ascii_digit (get_or c.args.field.now place 0) ≡ true = sym c.is_ascii_digit.ensures.value ∙ c.if-not-is_ascii_digit.false in
    let d = digit_is (get_or c.args.field.now place 0) is in
    let high = d.high in
    let digit : c.from.result ≤ 9 = omega arith in (
      all_more is_ascii_digit c.args.field.now place inside c.loop-byte.invariant.0 is,
      digits_more c.args.field.now place c.loop-byte.number c.from.result inside d c.loop-byte.invariant.1 (omega arith),
      digit_below c.loop-byte.number place c.from.result c.loop-byte.invariant.2 digit,
    )

pub returns-then-not-is_ascii_digit-clause-none : goal.returns-then-not-is_ascii_digit-clause-none
returns-then-not-is_ascii_digit-clause-none c = not_all is_ascii_digit c.args.field.now c.loop-byte.byte-index (omega arith) (sym c.is_ascii_digit.ensures.value ∙ c.if-not-is_ascii_digit.true)

pub returns-clause-some : goal.returns-clause-some
returns-clause-some c =
    let all : take c.loop-byte.byte-index c.args.field.now ≡ c.args.field.now = take_all _ _ (omega arith) in
    (sym (ap (list_all is_ascii_digit) all) ∙ c.loop-byte.invariant.0, c.loop-byte.invariant.1 ∙ ap (digits_value 10) all)
