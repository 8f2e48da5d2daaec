use Rattle.std.proofs.Common.{◌≡◌, sym, ◌∙◌}
use Rattle.machine_table.specs.declared.builder.BuildFail.TheVariants.{Conflict, Unspecified, NoMemory}
use Rattle.machine_table.specs.Laws.Unrefused.{build_unrefused}
use Rattle.machine_table.proofs.machine.Machine.of_accepted.Goals as goal

pub unreachable-requires : goal.unreachable-requires
unreachable-requires c =
    build_unrefused c.args.file.now c.args.fill c.in-Err-Conflict.field-0 c.requires.accepted
    (λ e. let f : Conflict c.in-Err-Conflict.field-0-0 c.in-Err-Conflict.field-0-1 ≡ NoMemory = sym c.in-Err-Conflict.field-0-is ∙ e in cc)
    c.in-Err-Conflict.ensures.caused

pub unreachable-requires-in-Err-Unspecified : goal.unreachable-requires-in-Err-Unspecified
unreachable-requires-in-Err-Unspecified c =
    build_unrefused c.args.file.now c.args.fill c.in-Err-Unspecified.field-0 c.requires.accepted
    (λ e. let f : Unspecified c.in-Err-Unspecified.field-0-0 c.in-Err-Unspecified.field-0-1 c.in-Err-Unspecified.field-0-2 ≡ NoMemory = sym c.in-Err-Unspecified.field-0-is ∙ e in cc)
    c.in-Err-Unspecified.ensures.caused
