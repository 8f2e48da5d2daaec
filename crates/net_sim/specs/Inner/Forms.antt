-- The forms by which gates are evaluated.
use Rattle.std.specs.Prelude.{◌≡◌, ℕ, ◌^◌, ◌<◌, ◌≤◌, ⊤, All, Bool, false, List, Some, length, take, slice_get, slice_index_or}
use Rattle.std.specs.List.{list_any}
use Rattle.cubes.specs.declared.cube.Cube.{Cube}
use Rattle.cubes.specs.Cube.{holds}
use Rattle.cubes.specs.Symbol.{bit, symbol_of}
use Rattle.net_core.specs.declared.gate_order.NumberedGate.{NumberedGate}
use Rattle.net_core.specs.Step.{row_holds}
use Rattle.net_sim.specs.declared.forms.GateForm.{GateForm}
use Rattle.net_sim.specs.declared.forms.GateForm.TheVariants.{Small, Table, Cubes, Wide, Rows}
use Rattle.net_sim.specs.declared.small_gates.SmallGate.{SmallGate}
use Rattle.net_sim.specs.Inner.GateValues.{value_for}
use Rattle.net_sim.specs.Inner.Pieces.{IsWide}

-- the table has at each number the value of the gate for the bits of this number
pub record IsValueTable (gate : NumberedGate) (table : List Bool) : Type 0 where
  pub few : length gate.inputs.items ≤ 16
  pub whole : length table ≡ 2 ^ length gate.inputs.items
  pub values : (k : ℕ) → k < length table → slice_index_or table k false ≡ value_for gate (symbol_of (length gate.inputs.items) k)

-- the cubes are as wide as the gate, and hold the symbols that its rows hold
pub record IsCubes (gate : NumberedGate) (cubes : List Cube) : Type 0 where
  pub few : length gate.inputs.items ≤ 32
  pub widths : All (λ cube. cube.width ≡ length gate.inputs.items) cubes
  pub held : (symbol : List Bool) → length symbol ≡ length gate.inputs.items → list_any (λ cube. holds cube symbol) cubes ≡ list_any (λ row. row_holds row symbol) gate.rows

-- the word has as its bits the values of the gate for the bits of the numbers below this one, and zeros from there on
pub record HasValues (gate : NumberedGate) (number word : ℕ) : Type 0 where
  pub below : (k : ℕ) → k < number → bit word k ≡ value_for gate (symbol_of (length gate.inputs.items) k)
  pub above : (k : ℕ) → number ≤ k → bit word k ≡ false

-- the small gate has the inputs of the gate and its values
pub record IsSmall (gate : NumberedGate) (small : SmallGate) : Type 0 where
  pub inputs : take small.count small.inputs ≡ gate.inputs.items
  pub values : HasValues gate (2 ^ length gate.inputs.items) small.values

-- the form gives the values of the gate
abbrev pub IsForm : NumberedGate → GateForm → Type 0
IsForm gate (Small small) = IsSmall gate small
IsForm gate (Table table) = IsValueTable gate table
IsForm gate (Cubes cubes) = IsCubes gate cubes
IsForm gate (Wide rows) = (length gate.inputs.items ≤ 256) × IsWide gate rows
IsForm gate Rows = ⊤

-- forms of gates, one for each gate as far as there are forms
abbrev pub AreForms : List NumberedGate → List GateForm → Type 0
AreForms gates forms = (place : ℕ) (gate : NumberedGate) (form : GateForm) → slice_get gates place ≡ Some gate → slice_get forms place ≡ Some form → IsForm gate form
