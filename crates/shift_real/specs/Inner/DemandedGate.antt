-- The gate of an output by its read set and by what is asked of it.
use Rattle.std.specs.Prelude.{◌≡◌, ℕ, true, false, All, List, ◌++◌, length, map}
use Rattle.std.specs.Cmp.Lexicographic.{slice_cmp}
use Rattle.std.specs.List.Sorted.{IsSorted}
use Rattle.std.specs.Ordering.{nat_cmp}
use Rattle.gate_rows.specs.declared.demands.Demand.{Demand}
use Rattle.gate_rows.specs.Columns.{column_count}
use Rattle.gate_rows.specs.GateCovers.{IsGoodCover}
use Rattle.gate_rows.specs.Demands.{IsAsked}
use Rattle.gate_rows.specs.Names.{name_at}
use Rattle.net_core.specs.declared.Gate.{Gate}
use Rattle.net_core.specs.declared.SignalNames.{SignalNames}

pub record IsGateOfDemands (names : SignalNames) (b : ℕ) (inputs latches : List ℕ) (demands : List Demand) (gate : Gate) : Type 0 where
  pub on : gate.on ≡ true
  pub output : gate.output ≡ name_at names.outputs b
  pub listed : gate.inputs ≡ map (name_at names.inputs) inputs ++ map (name_at names.latch_outputs) latches
  pub cover : IsGoodCover (IsAsked inputs latches true demands) (IsAsked inputs latches false demands) gate.rows
  pub widths : All (λ row. length row ≡ column_count inputs latches) gate.rows
  pub in_order : IsSorted (slice_cmp nat_cmp) gate.rows
