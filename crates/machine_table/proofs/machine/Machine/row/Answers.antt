use Rattle.std.proofs.Common.{◌≡◌, ◌<◌, Some, length, slice_get, sym, subst}
use Rattle.kiss_file.specs.declared.file.KissFile.{KissFile}
use Rattle.kiss_file.specs.LawfulFile.{IsLawfulRow}
use Rattle.machine_table.proofs.machine.Machine.row.Goals as goal

pub row-requires : goal.row-requires
row-requires c = subst (λ (F : KissFile). c.args.number < length F.rows) (sym c.self.view_is) c.requires

pub returns-clause-row : goal.returns-clause-row
returns-clause-row c = subst (λ (F : KissFile). slice_get F.rows c.args.number ≡ Some c.row.result.now) c.self.view_is c.row.ensures.row

pub returns-clause-lawful : goal.returns-clause-lawful
returns-clause-lawful c =
    subst (λ (F : KissFile). IsLawfulRow F.inputs F.outputs (length F.states) c.row.result.now) c.self.view_is c.row.ensures.lawful
