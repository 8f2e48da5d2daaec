-- The rows so far once, and what they are made of.
use Rattle.std.proofs.Common.{◌≡◌, map, take}
use Rattle.part_machines.specs.PartRows.{numbers_of_row, rows_once}
use Rattle.part_rows.proofs.distinct.rows_once.Given as goal

abbrev pub invariant-loop-row : goal.invariant-loop-row
invariant-loop-row l = record {
  seen : l.seen.keys ≡ map numbers_of_row l.once.items;
  once : l.once.items ≡ rows_once (take l.row-index l.rows);
}
