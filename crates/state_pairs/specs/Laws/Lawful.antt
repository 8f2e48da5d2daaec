-- A lawful file is a table, and what the rows of a table have.
use Rattle.std.proofs.Common.{ℕ, ◌<◌, ◌≤◌, ◌^◌, All, IfSome, Option, None, Some, arith, get_or, length}
use Rattle.kiss_file.specs.declared.file.KissFile.{KissFile}
use Rattle.kiss_file.specs.declared.file.KissRow.{KissRow}
use Rattle.kiss_file.specs.LawfulFile.{IsLawful, IsLawfulRow}
use Rattle.state_pairs.specs.Table.{IsTable}
use Rattle.state_rows.specs.Bundles.{IsFit}

pub table_of_lawful : (F : KissFile) → IsLawful F → IsTable F
table_of_lawful F lawful = record {
  some_input = lawful.some_input;
  inputs = lawful.inputs;
  some_output = lawful.some_output;
  outputs = lawful.outputs;
  states = lawful.state_count;
  rows = lawful.rows;
  reset = lawful.reset;
}

-- the rows of a table are fit for its width
pub fit_of_lawful : (inputs outputs states : ℕ) (row : KissRow) → states ≤ 256 → IsLawfulRow inputs outputs states row → IsFit inputs row
fit_of_lawful inputs outputs states row few lawful = record {
  cube_width = lawful.width;
  next_state = below row.to lawful.to;
}
  where
    below : (to : Option ℕ) → IfSome to (λ t. t < states) → IfSome to (λ t. t < 2 ^ 16)
    below None known = tt
    below (Some t) known = omega (arith, known, few)

pub fit_of_table : (F : KissFile) → IsTable F → All (IsFit F.inputs) F.rows
fit_of_table F table k d within = fit_of_lawful F.inputs F.outputs (length F.states) (get_or F.rows k d) table.states (table.rows k d within)
