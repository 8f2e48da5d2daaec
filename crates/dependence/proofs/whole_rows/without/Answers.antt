use Rattle.std.proofs.Common.{bit_and, refl}
use Rattle.std.specs.Int.RustNames.{bit_xor}
use Rattle.kiss_file.specs.declared.file.KissRow.{KissRow}
use Rattle.dependence.proofs.FilledRows.{names_alone, says_alone}
use Rattle.dependence.proofs.whole_rows.without.Goals as goal

pub returns-clause-next : goal.returns-clause-next
returns-clause-next c t is =
    let added = c.args.added in
    let left : KissRow = record { cube = added.cube; from = added.from; to = c.alone.result; care = bit_and added.care (bit_xor added.care c.args.row.now.care); value = added.value } in
    names_alone added c.args.row.now left c.alone.ensures refl t is

pub returns-clause-says : goal.returns-clause-says
returns-clause-says c part =
    let added = c.args.added in
    let left : KissRow = record { cube = added.cube; from = added.from; to = c.alone.result; care = bit_and added.care (bit_xor added.care c.args.row.now.care); value = added.value } in
    says_alone added c.args.row.now left c.alone.ensures refl part
