-- What stands after a word that is allowed once.
use Rattle.std.proofs.Common.{◌≡◌, ℕ, Bool, true, false, List, [], ◌∷◌, ◌++◌, Option, Some, None, ap, sym, ◌∙◌, refl}
use Rattle.std.specs.Prelude.{Result, Ok, Err, unwrap_or}
use Rattle.std.specs.Option.{is_some, option_map}
use Rattle.std.specs.Result.{OnOk}
use Rattle.std.proofs.lemmas.Option.{none-some}
use Rattle.hs_io.specs.declared.lines.Line.{Line}
use Rattle.kiss2.specs.declared.fault.KissKind.{KissKind}
use Rattle.kiss2.specs.declared.fault.KissKind.TheVariants.{Repeated}
use Rattle.kiss2.specs.declared.fault.KissLimit.TheVariants.{Inputs, Outputs}
use Rattle.kiss2.specs.declared.line_kind.LineKind.{LineKind}
use Rattle.kiss2.specs.declared.line_kind.LineKind.TheVariants.{InputCount, InputNames, OutputCount, OutputNames, RowCount, StateCount}
use Rattle.kiss2.specs.declared.line_operands.LineFail.{LineFail}
use Rattle.kiss2.specs.declared.standing.Said.{Said}
use Rattle.kiss2.specs.Faults.{count_fault, fault_in, fault_where, first_of, form_fault, names_fault, number_fault, operand_of, stands_again}
use Rattle.kiss2.specs.Inner.ReaderState.{Judges, Stands}
use Rattle.kiss2.specs.Standing.{has_stood}
use Rattle.kiss2.specs.Words.{decimal_value, field_at, line_kind_of, operands}
use Rattle.kiss2.specs.Laws.Stood.{fails_at, fault_word, is_some-map, operand_field, own, stay}

-- what holds of each result
pub on_ok : {T E P : Type 0} (result : Result T E) → P → OnOk result P
on_ok (Ok value) p = p
on_ok (Err fail) p = tt

-- a judgement of one fault is one of the same fault
judged : {T : Type 0} {P Q : Type 0} (result : Result T LineFail) (fault other : Option KissKind) → fault ≡ other → (other ≡ None → P → Q) → Judges result other (λ _. P) → Judges result fault (λ _. Q)
judged (Ok value) fault other same more h = (same ∙ h.0, more h.0 h.1)
judged (Err fail) fault other same more h = fails_at fail same h

-- where there is no fault, the word is new
new_word : (test : Bool) (fault : Option KissKind) → first_of (fault_where test Repeated ∷ fault ∷ []) ≡ None → test ≡ false
new_word false fault none = refl
new_word true fault none = absurd (none-some Repeated (sym none))

-- the fault of a word that is allowed once
abbrev pub word_fault : Bool → Option KissKind → Option KissKind
word_fault test fault = first_of (fault_where test Repeated ∷ fault ∷ [])

module _ {T : Type 0} (result : Result T LineFail) (said : Said) (before : List Line) (line : Line) (stands : Stands said before) (clean : line.bad ≡ false) (fields : List (List ℕ)) (there : fields ≡ operands line) where
  module _ (kind : LineKind) (is : line_kind_of line ≡ kind) (test : Bool) (again : stands_again kind before ≡ test) (fault : Option KissKind) (form : form_fault kind before line ≡ fault) where
    same : fault_in before line ≡ word_fault test fault
    same = fault_word before line kind clean is ∙ (ap (λ t. word_fault t (form_fault kind before line)) again ∙ ap (λ f. word_fault test f) form)

  -- `.i`
  pub inputs_taken : line_kind_of line ≡ InputCount → (new : Option ℕ) → Judges result (word_fault (is_some said.inputs) (count_fault Inputs 32 fields)) (λ _. new ≡ Some (decimal_value (operand_of fields)))
      → Judges result (fault_in before line) (λ _. Stands (record said { inputs = new }) (before ++ line ∷ []))
  inputs_taken kind new h =
      let again : has_stood InputCount before ≡ is_some said.inputs = sym (is_some-map _ _) ∙ ap is_some (sym stands.inputs) in
      let fault = count_fault Inputs 32 fields in
      let kept = stay before line InputCount kind in
      judged result (fault_in before line) (word_fault (is_some said.inputs) fault) (same InputCount kind (is_some said.inputs) again fault (ap (count_fault Inputs 32) (sym there)))
      (λ none is. record {
        inputs = is ∙ (ap (λ f. Some (decimal_value f)) (ap operand_of there ∙ operand_field line) ∙ sym (ap (option_map (λ l. decimal_value (field_at 1 l))) (own before line InputCount kind refl (again ∙ new_word (is_some said.inputs) fault none))));
        outputs = stands.outputs ∙ kept.outputs refl;
        row_word = stands.row_word ∙ kept.row_word refl;
        state_word = stands.state_word ∙ kept.state_word refl;
        reset = stands.reset ∙ kept.reset refl;
        input_names = stands.input_names ∙ kept.input_names refl;
        output_names = stands.output_names ∙ kept.output_names refl;
        rows = stands.rows ∙ kept.rows refl;
        states = stands.states ∙ kept.states refl;
      })
      h

  -- `.o`
  pub outputs_taken : line_kind_of line ≡ OutputCount → (new : Option ℕ) → Judges result (word_fault (is_some said.outputs) (count_fault Outputs 64 fields)) (λ _. new ≡ Some (decimal_value (operand_of fields)))
      → Judges result (fault_in before line) (λ _. Stands (record said { outputs = new }) (before ++ line ∷ []))
  outputs_taken kind new h =
      let again : has_stood OutputCount before ≡ is_some said.outputs = sym (is_some-map _ _) ∙ ap is_some (sym stands.outputs) in
      let fault = count_fault Outputs 64 fields in
      let kept = stay before line OutputCount kind in
      judged result (fault_in before line) (word_fault (is_some said.outputs) fault) (same OutputCount kind (is_some said.outputs) again fault (ap (count_fault Outputs 64) (sym there)))
      (λ none is. record {
        inputs = stands.inputs ∙ kept.inputs refl;
        outputs = is ∙ (ap (λ f. Some (decimal_value f)) (ap operand_of there ∙ operand_field line) ∙ sym (ap (option_map (λ l. decimal_value (field_at 1 l))) (own before line OutputCount kind refl (again ∙ new_word (is_some said.outputs) fault none))));
        row_word = stands.row_word ∙ kept.row_word refl;
        state_word = stands.state_word ∙ kept.state_word refl;
        reset = stands.reset ∙ kept.reset refl;
        input_names = stands.input_names ∙ kept.input_names refl;
        output_names = stands.output_names ∙ kept.output_names refl;
        rows = stands.rows ∙ kept.rows refl;
        states = stands.states ∙ kept.states refl;
      })
      h

  -- `.p`
  pub row_word_taken : line_kind_of line ≡ RowCount → (new : Bool) → Judges result (word_fault said.row_word (number_fault fields)) (λ _. new ≡ true)
      → Judges result (fault_in before line) (λ _. Stands (record said { row_word = new }) (before ++ line ∷ []))
  row_word_taken kind new h =
      let again : has_stood RowCount before ≡ said.row_word = sym stands.row_word in
      let fault = number_fault fields in
      let kept = stay before line RowCount kind in
      judged result (fault_in before line) (word_fault said.row_word fault) (same RowCount kind said.row_word again fault (ap number_fault (sym there)))
      (λ none is. record {
        inputs = stands.inputs ∙ kept.inputs refl;
        outputs = stands.outputs ∙ kept.outputs refl;
        row_word = is ∙ sym (ap is_some (own before line RowCount kind refl (again ∙ new_word said.row_word fault none)));
        state_word = stands.state_word ∙ kept.state_word refl;
        reset = stands.reset ∙ kept.reset refl;
        input_names = stands.input_names ∙ kept.input_names refl;
        output_names = stands.output_names ∙ kept.output_names refl;
        rows = stands.rows ∙ kept.rows refl;
        states = stands.states ∙ kept.states refl;
      })
      h

  -- `.s`
  pub state_word_taken : line_kind_of line ≡ StateCount → (new : Bool) → Judges result (word_fault said.state_word (number_fault fields)) (λ _. new ≡ true)
      → Judges result (fault_in before line) (λ _. Stands (record said { state_word = new }) (before ++ line ∷ []))
  state_word_taken kind new h =
      let again : has_stood StateCount before ≡ said.state_word = sym stands.state_word in
      let fault = number_fault fields in
      let kept = stay before line StateCount kind in
      judged result (fault_in before line) (word_fault said.state_word fault) (same StateCount kind said.state_word again fault (ap number_fault (sym there)))
      (λ none is. record {
        inputs = stands.inputs ∙ kept.inputs refl;
        outputs = stands.outputs ∙ kept.outputs refl;
        row_word = stands.row_word ∙ kept.row_word refl;
        state_word = is ∙ sym (ap is_some (own before line StateCount kind refl (again ∙ new_word said.state_word fault none)));
        reset = stands.reset ∙ kept.reset refl;
        input_names = stands.input_names ∙ kept.input_names refl;
        output_names = stands.output_names ∙ kept.output_names refl;
        rows = stands.rows ∙ kept.rows refl;
        states = stands.states ∙ kept.states refl;
      })
      h

  -- `.ilb`
  pub input_names_taken : line_kind_of line ≡ InputNames → (new : Option (List (List ℕ))) → Judges result (word_fault (is_some said.input_names) (names_fault said.inputs (unwrap_or said.output_names []) fields)) (λ _. new ≡ Some fields)
      → Judges result (fault_in before line) (λ _. Stands (record said { input_names = new }) (before ++ line ∷ []))
  input_names_taken kind new h =
      let again : has_stood InputNames before ≡ is_some said.input_names = sym (is_some-map _ _) ∙ ap is_some (sym stands.input_names) in
      let fault = names_fault said.inputs (unwrap_or said.output_names []) fields in
      let kept = stay before line InputNames kind in
      judged result (fault_in before line) (word_fault (is_some said.input_names) fault) (same InputNames kind (is_some said.input_names) again fault (rw (there, stands.inputs, stands.output_names) refl))
      (λ none is. record {
        inputs = stands.inputs ∙ kept.inputs refl;
        outputs = stands.outputs ∙ kept.outputs refl;
        row_word = stands.row_word ∙ kept.row_word refl;
        state_word = stands.state_word ∙ kept.state_word refl;
        reset = stands.reset ∙ kept.reset refl;
        input_names = is ∙ (ap Some there ∙ sym (ap (option_map operands) (own before line InputNames kind refl (again ∙ new_word (is_some said.input_names) fault none))));
        output_names = stands.output_names ∙ kept.output_names refl;
        rows = stands.rows ∙ kept.rows refl;
        states = stands.states ∙ kept.states refl;
      })
      h

  -- `.ob`
  pub output_names_taken : line_kind_of line ≡ OutputNames → (new : Option (List (List ℕ))) → Judges result (word_fault (is_some said.output_names) (names_fault said.outputs (unwrap_or said.input_names []) fields)) (λ _. new ≡ Some fields)
      → Judges result (fault_in before line) (λ _. Stands (record said { output_names = new }) (before ++ line ∷ []))
  output_names_taken kind new h =
      let again : has_stood OutputNames before ≡ is_some said.output_names = sym (is_some-map _ _) ∙ ap is_some (sym stands.output_names) in
      let fault = names_fault said.outputs (unwrap_or said.input_names []) fields in
      let kept = stay before line OutputNames kind in
      judged result (fault_in before line) (word_fault (is_some said.output_names) fault) (same OutputNames kind (is_some said.output_names) again fault (rw (there, stands.outputs, stands.input_names) refl))
      (λ none is. record {
        inputs = stands.inputs ∙ kept.inputs refl;
        outputs = stands.outputs ∙ kept.outputs refl;
        row_word = stands.row_word ∙ kept.row_word refl;
        state_word = stands.state_word ∙ kept.state_word refl;
        reset = stands.reset ∙ kept.reset refl;
        input_names = stands.input_names ∙ kept.input_names refl;
        output_names = is ∙ (ap Some there ∙ sym (ap (option_map operands) (own before line OutputNames kind refl (again ∙ new_word (is_some said.output_names) fault none))));
        rows = stands.rows ∙ kept.rows refl;
        states = stands.states ∙ kept.states refl;
      })
      h
