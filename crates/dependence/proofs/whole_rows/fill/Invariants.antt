use Rattle.std.proofs.Common.{ℕ, ◌≡◌, ◌+◌, ◌<◌}
use Rattle.machine_table.specs.declared.open_part.Missing.{Missing}
use Rattle.machine_table.specs.Pieces.{IsSaidBy}
use Rattle.dependence.specs.FilledRows.{IsSpecifiedState}
use Rattle.dependence.specs.Inner.FilledRows.{AreRowsOf}
use Rattle.machine_table.specs.OpenEntries.{place_of}
use Rattle.dependence.proofs.whole_rows.fill.Given as goal

abbrev pub invariant-loop-b : goal.invariant-loop-b
invariant-loop-b l = record {
  rows : AreRowsOf l.m l.s l.rows.items;
  each : (x : ℕ) (part : Missing) → place_of part < l.b + 1 → IsSaidBy l.rows.items x part;
  own : IsSpecifiedState l.m l.s → l.rows.items ≡ l.initial.rows.items;
}
