use Rattle.std.proofs.Common.{◌≡◌, take, ap, sym, ◌∙◌, arith}
use Rattle.std.specs.List.{list_all}
use Rattle.std.proofs.lemmas.List.{take_all}
use Rattle.kiss2.specs.Words.{is_character}
use Rattle.kiss2.proofs.Digits.{all_more, not_all}
use Rattle.kiss2.proofs.words.are_characters.Goals as goal

pub loop-byte-preserved : goal.loop-byte-preserved
loop-byte-preserved c = all_more is_character c.args.field.now c.loop-byte.byte-index c.loop-byte-test.true c.loop-byte.invariant (sym c.is_field_character.ensures ∙ c.if-not-is_field_character.false)

pub returns-then-not-is_field_character : goal.returns-then-not-is_field_character
returns-then-not-is_field_character c =
    sym (not_all is_character c.args.field.now c.loop-byte.byte-index c.loop-byte-test.true (sym c.is_field_character.ensures ∙ c.if-not-is_field_character.true))

pub returns : goal.returns
returns c =
    let all : take c.loop-byte.byte-index c.args.field.now ≡ c.args.field.now = take_all _ _ (omega arith) in
    sym (sym (ap (list_all is_character) all) ∙ c.loop-byte.invariant)
