-- Rows with one row more. Private functions need it; no public contract cites it.
use Rattle.std.specs.Prelude.{List, [], ◌∷◌, ◌++◌, if◌then◌else◌}
use Rattle.std.specs.List.{list_any}
use Rattle.kiss_file.specs.declared.file.KissRow.{KissRow}
use Rattle.part_machines.specs.PartRows.{is_same_row}

-- the rows, and behind them the row where none of them equals it
abbrev pub with_row : List KissRow → KissRow → List KissRow
with_row rows row = if list_any (is_same_row row) rows then rows else rows ++ row ∷ []
