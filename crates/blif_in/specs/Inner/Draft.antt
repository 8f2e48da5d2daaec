-- Networks, statement by statement.
use Rattle.std.specs.Prelude.{◌≡◌, ℕ, Option, Some, None, List, [], ◌∷◌, ◌++◌, map, unwrap_or}
use Rattle.std.specs.List.{filter_map, flat_map}
use Rattle.net_core.specs.declared.Gate.{Gate}
use Rattle.net_core.specs.declared.Network.{Network}
use Rattle.net_core.specs.Statements.{Statement, inputs_in, outputs_in, latch_in, gates_of, lists_on, plane_of, rows_of}
use Rattle.blif_in.specs.declared.draft.Draft.{Draft}
use Rattle.blif_in.specs.declared.draft.DraftGate.{DraftGate}

-- the gate that a draft of it becomes with these rows after its own
abbrev pub gate_by : DraftGate → List (List (List ℕ)) → Gate
gate_by gate rows =
    record {
      inputs = gate.inputs;
      output = gate.output;
      rows = gate.rows ++ map plane_of rows;
      on = unwrap_or gate.bit (lists_on rows);
    }

-- the same, if there is a gate
abbrev pub gates_by : Option DraftGate → List (List (List ℕ)) → List Gate
gates_by None rows = []
gates_by (Some gate) rows = gate_by gate rows ∷ []

-- the network that a draft becomes with these statements behind it
abbrev pub network_by : Draft → List Statement → Network
network_by draft behind =
    record {
      inputs = draft.inputs ++ flat_map inputs_in behind;
      outputs = draft.outputs ++ flat_map outputs_in behind;
      latches = draft.latches ++ filter_map latch_in behind;
      gates = draft.gates ++ gates_by draft.open_gate (rows_of behind) ++ gates_of behind;
    }

-- whatever comes behind, the draft after a statement becomes the network that the draft before it becomes with that statement
abbrev pub Adds : Statement → Draft → Draft → Type 0
Adds statement before after = (behind : List Statement) → network_by after behind ≡ network_by before (statement ∷ behind)
