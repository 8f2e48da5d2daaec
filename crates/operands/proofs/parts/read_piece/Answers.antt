use Rattle.operands.proofs.PartRefusals.{bad_label, other_length}
use Rattle.operands.specs.Laws.Parts.{text_is_not_bad}
use Rattle.operands.proofs.parts.read_piece.Goals as goal

pub returns-in-Ok : goal.returns-in-Ok
returns-in-Ok c =
    (text_is_not_bad c.args.part c.args.states c.args.text.now c.in-Ok.partition (c.in-Ok.ensures.lawful, c.in-Ok.ensures.ok), (c.in-Ok.ensures.lawful, c.in-Ok.ensures.ok))

pub returns-in-Err-BadText : goal.returns-in-Err-BadText
returns-in-Err-BadText c =
    bad_label c.args.part c.args.states c.args.text.now c.in-Err-BadText.place c.in-Err-BadText.field-0 c.in-Err-BadText.field-0-is (c.parse.ensures.refused c.in-Err-BadText.field-0 c.in-Err-BadText.is)

pub returns-in-Err-WrongLength : goal.returns-in-Err-WrongLength
returns-in-Err-WrongLength c =
    other_length c.args.part c.args.states c.args.text.now c.in-Err-WrongLength.found c.in-Err-WrongLength.field-0 c.in-Err-WrongLength.field-0-is (c.parse.ensures.refused c.in-Err-WrongLength.field-0 c.in-Err-WrongLength.is)
