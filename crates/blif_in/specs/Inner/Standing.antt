-- What the reader keeps from one statement to the next.
use Rattle.std.specs.Prelude.{◌≡◌, ℕ, ◌≤◌, Bool, false, true, Option, Some, None, Result, Ok, Err, List, [], ◌∷◌, length, count_by}
use Rattle.std.specs.List.{AllByRecursion, filter_map, flat_map, list_any}
use Rattle.std.specs.Option.{option_copied, option_map}
use Rattle.net_core.specs.Limits.{is_names}
use Rattle.net_core.specs.Statements as said
use Rattle.net_core.specs.Statements.{Statement, is_model, is_clock, clocks_in, inputs_in, outputs_in, latch_in, open_gate}
use Rattle.blif_in.specs.declared.fault.BlifKind.{BlifKind}
use Rattle.blif_in.specs.Faults.{form_fault}
use Rattle.blif_in.specs.declared.standing.OpenGate.{OpenGate}
use Rattle.blif_in.specs.declared.standing.Standing.{Standing}
use Rattle.blif_in.specs.declared.standing.Summary.{Summary}

abbrev pub gate_seen : OpenGate → said.OpenGate
gate_seen gate = record { inputs = gate.inputs; bit = gate.bit }

-- all of these names are the clock's
abbrev pub IsClock : Option (List ℕ) → List (List ℕ) → Type 0
IsClock None names = names ≡ []
IsClock (Some clock) [] = ⊥
IsClock (Some clock) (name ∷ names) = AllByRecursion (λ other. other ≡ clock) (name ∷ names)

-- whether there was a statement
abbrev pub has_begun : List Statement → Bool
has_begun [] = false
has_begun (_ ∷ _) = true

-- the summary of these statements, which begin with the last one, and the name of their clock
pub record Stands (summary : Summary) (clock_name : Option (List ℕ)) (earlier : List Statement) : Type 0 where
  pub begun : summary.begun ≡ has_begun earlier
  pub model : summary.model ≡ list_any is_model earlier
  pub clock_word : summary.clock_word ≡ list_any is_clock earlier
  pub clock : IsClock clock_name (flat_map clocks_in earlier)
  pub gate : option_map gate_seen summary.gate ≡ open_gate earlier
  pub inputs : summary.inputs ≡ length (flat_map inputs_in earlier)
  pub outputs : summary.outputs ≡ length (flat_map outputs_in earlier)
  pub latches : summary.latches ≡ length (filter_map latch_in earlier)
  pub gates : summary.gates ≡ count_by is_names earlier

-- the counts are within the limits
pub record IsSmall (summary : Summary) : Type 0 where
  pub inputs : summary.inputs ≤ 256
  pub outputs : summary.outputs ≤ 256
  pub latches : summary.latches ≤ 256
  pub gates : summary.gates ≤ 65536

-- the answer is the fault, if there is one, or else a value with the property
abbrev pub Judges : {T : Type 0} → Result T BlifKind → Option BlifKind → (T → Type 0) → Type 0
Judges (Ok value) fault P = (fault ≡ None) × P value
Judges (Err kind) fault P = fault ≡ Some kind

-- the answer for a statement is right after any statements after which this is kept
abbrev pub IsJudged : Standing → Statement → Result Standing BlifKind → Type 0
IsJudged standing statement result =
    (earlier : List Statement) → Stands standing.summary (option_copied standing.clock) earlier
    → Judges result (form_fault earlier statement) (λ next. Stands next.summary (option_copied next.clock) (statement ∷ earlier))
