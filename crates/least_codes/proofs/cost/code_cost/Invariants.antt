use Rattle.std.proofs.Common.{◌≡◌, ◌*◌, ◌≤◌, length}
use Rattle.kiss_file.specs.declared.file.KissFile.{KissFile}
use Rattle.least_codes.specs.Inner.Costs.{AreCosts}
use Rattle.least_codes.specs.Inner.Table.{IsImageTable}
use Rattle.least_codes.proofs.cost.code_cost.Given as goal

abbrev pub invariant-loop-i : goal.invariant-loop-i
invariant-loop-i l = record {
  costs : (F : KissFile) → IsImageTable F l.table → length F.states ≡ length l.words → AreCosts F l.words l.bits l.i l.cost;
  small : l.cost ≤ 3 * l.i;
}
