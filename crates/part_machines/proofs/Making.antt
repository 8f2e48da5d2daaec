-- The laws of what the rows of a part make.
use Rattle.std.proofs.Common.{◌<◌, All, length}
use Rattle.partition.specs.Partition.{IsPartition}
use Rattle.realise.proofs.EqualReads.{equal_reads}
use Rattle.part_machines.specs.MachineLaws.{PartsAreLawful, PartsNeverConflict, RowsMakeThePart}
use Rattle.part_machines.proofs.Conflicts.{no_conflict}
use Rattle.part_machines.proofs.LawfulMachine.{lawful_machine}
use Rattle.part_machines.proofs.PartInputs.{inputs_within, some_read}
use Rattle.part_machines.proofs.Whole.{block_count, is_part, is_partition}

pub rows_make_the_part : RowsMakeThePart
rows_make_the_part W parts code sets names which p set P known sizes pieces =
    is_part W parts code sets names which known equal_reads sizes.0 sizes.1 p pieces.blocks_are set pieces.reads P pieces.some_output pieces.signals pieces.blocks pieces.rows

pub parts_never_conflict : PartsNeverConflict
parts_never_conflict W parts code sets which p set P known sizes blocks_are reads rows conflict =
    let partition : IsPartition (length W.states) p = is_partition W parts which p sizes.0 known.lawful blocks_are in
    let within : All (λ a. a < W.inputs) set.inputs = inputs_within W code sets which set known.enough reads sizes.1 in
    no_conflict W parts code sets known equal_reads which p blocks_are set reads within partition.length P rows conflict

pub parts_are_lawful : PartsAreLawful
parts_are_lawful W parts code sets names which p set P known sizes reset pieces named room =
    let partition : IsPartition (length W.states) p = is_partition W parts which p sizes.0 known.lawful pieces.blocks_are in
    let within : All (λ a. a < W.inputs) set.inputs = inputs_within W code sets which set known.enough pieces.reads sizes.1 in
    let count = block_count W parts code sets names which known equal_reads sizes.0 sizes.1 p pieces.blocks_are set pieces.reads P pieces.some_output pieces.signals pieces.blocks pieces.rows in
    let some = some_read W code sets which set known.enough pieces.reads in
    lawful_machine W code p set names which P pieces.rows within partition pieces.signals pieces.blocks count some room.few_read pieces.some_output room.few_outputs reset named room.few_rows
