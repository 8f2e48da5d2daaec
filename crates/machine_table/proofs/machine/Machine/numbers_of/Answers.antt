use Rattle.std.proofs.Common.{ℕ, ◌≡◌, ◌<◌, All, Contains, Some, length, slice_get, sym, subst}
use Rattle.kiss_file.specs.declared.file.KissFile.{KissFile}
use Rattle.kiss_file.specs.declared.file.KissRow.{KissRow}
use Rattle.kiss_file.specs.Machine.{Conflicting}
use Rattle.state_pairs.specs.Table.{IsTable}
use Rattle.state_rows.specs.Places.{IsNumberOf}
use Rattle.machine_table.proofs.machine.Machine.numbers_of.Goals as goal

pub numbers_of-requires : goal.numbers_of-requires
numbers_of-requires c = subst (λ (F : KissFile). c.args.s < length F.states) (sym c.self.view_is) c.requires

pub returns-clause-inside : goal.returns-clause-inside
returns-clause-inside c = subst (λ (F : KissFile). All (λ i. i < length F.rows) c.numbers_of.result.now) c.self.view_is c.numbers_of.ensures.inside

pub returns-clause-own : goal.returns-clause-own
returns-clause-own c = subst (λ (F : KissFile). (i : ℕ) → Contains c.numbers_of.result.now i → IsNumberOf F c.args.s i) c.self.view_is c.numbers_of.ensures.own

pub returns-clause-each : goal.returns-clause-each
returns-clause-each c =
    subst (λ (F : KissFile). (i : ℕ) (row : KissRow) → slice_get F.rows i ≡ Some row → row.from ≡ c.args.s → Contains c.numbers_of.result.now i) c.self.view_is
    c.numbers_of.ensures.each

pub returns-clause-table : goal.returns-clause-table
returns-clause-table c = subst IsTable c.self.view_is c.self.invariant.0

pub returns-clause-no_conflict : goal.returns-clause-no_conflict
returns-clause-no_conflict c = subst (λ (F : KissFile). Conflicting F → ⊥) c.self.view_is c.self.invariant.1
