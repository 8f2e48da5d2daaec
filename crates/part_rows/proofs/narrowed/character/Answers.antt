use Rattle.part_rows.proofs.Fields.{shown_bit, shown_dash}
use Rattle.part_rows.proofs.narrowed.character.Goals as goal
use Rattle.std.proofs.Common.{sym, ◌∙◌}

pub returns-then-bit : goal.returns-then-bit
returns-then-bit c =
    shown_bit c.args.cube.now c.args.input c.from-place.result c.from.result c.from-then-bit.result c.requires c.from-place.ensures c.from.ensures c.from-then-bit.ensures
    (sym c.bit.ensures ∙ c.if-bit.true) c.bit-then-bit.result c.bit-then-bit.ensures

pub returns-else-bit : goal.returns-else-bit
returns-else-bit c = shown_dash c.args.cube.now c.args.input c.from-place.result c.from.result 0 c.requires c.from-place.ensures c.from.ensures (sym c.bit.ensures ∙ c.if-bit.false)
