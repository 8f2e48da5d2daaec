use Rattle.std.proofs.Common.{Err, ap, ◌∙◌}
use Rattle.kiss2.specs.Laws.Building.{parsed}
use Rattle.kiss2.proofs.record.cube_of.Goals as goal

pub unreachable-requires : goal.unreachable-requires
unreachable-requires c =
    parsed c.args.inputs c.args.field.now c.in-Err.field-0 c.requires.characters
    (λ found is. ((c.parse.ensures.bad_width found).0 (c.in-Err.is ∙ ap Err is)).0)
    (λ place is. ((c.parse.ensures.bad_char place).0 (c.in-Err.is ∙ ap Err is)).1)
