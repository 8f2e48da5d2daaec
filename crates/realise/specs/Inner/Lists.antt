-- What rows ask of the gate of a bit.
use Rattle.std.specs.Prelude.{ℕ, List, Option, slice_index}
use Rattle.std.specs.Option.{option_map}
use Rattle.dependence.specs.declared.bit.Bit.{Bit}
use Rattle.dependence.specs.declared.sets.ReadSet.{ReadSet}
use Rattle.dependence.specs.RowBits.{row_value}
use Rattle.gate_rows.specs.declared.demands.Demand.{Demand}
use Rattle.gate_rows.specs.Demands.{demand_at}
use Rattle.gate_rows.specs.Columns.{column_count}
use Rattle.kiss_file.specs.declared.file.KissRow.{KissRow}

-- the number of columns of a gate
abbrev pub width_of : ReadSet → ℕ
width_of set = column_count set.inputs set.latches

-- what the row says of the bit, at the code of its state
abbrev pub asked_by : List ℕ → Bit → KissRow → Option Demand
asked_by words bit row = option_map (demand_at row.cube (slice_index words row.from)) (row_value words bit row)
