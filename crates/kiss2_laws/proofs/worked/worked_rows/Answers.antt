use Rattle.std.proofs.Common.{◌≡◌, ℕ, List, [], ◌∷◌, ◌++◌, Some, refl, ◌∙◌, ap}
use Rattle.std.specs.Prelude.{Option, length}
use Rattle.kiss2.specs.declared.fault.KissKind.TheVariants.{OverLimit}
use Rattle.kiss2.specs.declared.fault.KissLimit.TheVariants.{Rows}
use Rattle.kiss2.specs.Faults.{fault_in, first_of, row_fault}
use Rattle.kiss2.specs.Kiss.{lines_read}
use Rattle.kiss2.specs.Standing.{each_once, inputs_said, outputs_said, row_lines, state_names}
use Rattle.kiss2_laws.specs.Worked.{bad_cube_line}
use Rattle.kiss2.specs.Words.{kind_of_field}
use Rattle.kiss2.specs.Laws.Faultless.{faultless_none}
use Rattle.kiss2_laws.proofs.Scanning.{scanned}
use Rattle.kiss2_laws.proofs.worked.worked_rows.Goals as goal

pub returns-clause-inputs_missing : goal.returns-clause-inputs_missing
unfolding lines_read fault_in kind_of_field state_names each_once
returns-clause-inputs_missing c = scanned [] _ _ faultless_none refl

pub returns-clause-five_fields : goal.returns-clause-five_fields
unfolding lines_read fault_in kind_of_field state_names each_once
returns-clause-five_fields c = scanned [] _ _ faultless_none refl

pub returns-clause-wide_cube : goal.returns-clause-wide_cube
unfolding lines_read fault_in kind_of_field state_names each_once
returns-clause-wide_cube c = scanned [] _ _ faultless_none refl

pub returns-clause-narrow_output : goal.returns-clause-narrow_output
unfolding lines_read fault_in kind_of_field state_names each_once
returns-clause-narrow_output c = scanned [] _ _ faultless_none refl

pub returns-clause-dash_state : goal.returns-clause-dash_state
unfolding lines_read fault_in kind_of_field state_names each_once
returns-clause-dash_state c = scanned [] _ _ faultless_none refl

pub returns-clause-state_before_long : goal.returns-clause-state_before_long
unfolding lines_read fault_in kind_of_field state_names each_once
returns-clause-state_before_long c = scanned [] _ _ faultless_none refl

pub returns-clause-longer_state : goal.returns-clause-longer_state
unfolding lines_read fault_in kind_of_field state_names each_once
returns-clause-longer_state c = scanned [] _ _ faultless_none refl

pub returns-clause-current_before_next : goal.returns-clause-current_before_next
unfolding lines_read fault_in kind_of_field state_names each_once
returns-clause-current_before_next c = scanned [] _ _ faultless_none refl

pub returns-clause-states_reached : goal.returns-clause-states_reached
unfolding fault_in kind_of_field state_names each_once
returns-clause-states_reached c = refl

pub returns-clause-states_counted : goal.returns-clause-states_counted
unfolding fault_in kind_of_field state_names each_once
returns-clause-states_counted c = refl

-- a row behind 65,536 rows
one_more : (inputs outputs : Option ℕ) (rows : ℕ) (states : List (List ℕ)) → inputs ≡ Some 1 → outputs ≡ Some 1 → rows ≡ 65536 → row_fault inputs outputs rows states bad_cube_line ≡ Some (OverLimit Rows 65537)
one_more inputs outputs rows states i o r =
    ap (λ n. row_fault n outputs rows states bad_cube_line) i
    ∙ (ap (λ n. row_fault (Some 1) n rows states bad_cube_line) o ∙ ap (λ n. row_fault (Some 1) (Some 1) n states bad_cube_line) r)

pub returns-clause-rows_counted : goal.returns-clause-rows_counted
unfolding fault_in kind_of_field
returns-clause-rows_counted c before i o r =
    ap (λ found. first_of (found ∷ [])) (one_more (inputs_said before) (outputs_said before) (length (row_lines before)) (state_names (before ++ bad_cube_line ∷ [])) i o r)

pub returns-clause-marks_in_names : goal.returns-clause-marks_in_names
unfolding lines_read fault_in kind_of_field state_names each_once
returns-clause-marks_in_names c = scanned [] _ _ faultless_none refl

pub returns-clause-marks_twice : goal.returns-clause-marks_twice
unfolding lines_read fault_in kind_of_field state_names each_once
returns-clause-marks_twice c = scanned [] _ _ faultless_none refl

pub returns-clause-counts_after_a_row : goal.returns-clause-counts_after_a_row
unfolding lines_read fault_in kind_of_field state_names each_once
returns-clause-counts_after_a_row c = scanned [] _ _ faultless_none refl

pub returns-clause-again_after_a_row : goal.returns-clause-again_after_a_row
unfolding lines_read fault_in kind_of_field state_names each_once
returns-clause-again_after_a_row c = scanned [] _ _ faultless_none refl

pub returns-clause-number_after_a_row : goal.returns-clause-number_after_a_row
unfolding lines_read fault_in kind_of_field state_names each_once
returns-clause-number_after_a_row c = scanned [] _ _ faultless_none refl

pub returns-clause-letter_in_an_input : goal.returns-clause-letter_in_an_input
unfolding lines_read fault_in kind_of_field state_names each_once
returns-clause-letter_in_an_input c = scanned [] _ _ faultless_none refl

pub returns-clause-tilde_in_an_output : goal.returns-clause-tilde_in_an_output
unfolding lines_read fault_in kind_of_field state_names each_once
returns-clause-tilde_in_an_output c = scanned [] _ _ faultless_none refl
