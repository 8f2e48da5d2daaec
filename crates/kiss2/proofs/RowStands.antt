-- What stands after one row more.
use Rattle.std.proofs.Common.{◌≡◌, ℕ, ◌+◌, ◌<◌, ◌≤◌, Bool, true, false, not, ltb, List, [], ◌∷◌, ◌++◌, length, Some, None, ap, sym, ◌∙◌, refl}
use Rattle.std.specs.Prelude.{filter}
use Rattle.std.specs.List.{flat_map}
use Rattle.std.proofs.lemmas.Bool.{le-ltb, lt-ltb}
use Rattle.std.proofs.lemmas.List.{flat_map_more, length_push}
use Rattle.hs_io.specs.declared.lines.Line.{Line}
use Rattle.kiss2.specs.declared.fault.KissKind.TheVariants.{BadOutput, OverLimit}
use Rattle.kiss2.specs.declared.fault.KissLimit.TheVariants.{States}
use Rattle.kiss2.specs.declared.line_kind.LineKind.TheVariants.{Row}
use Rattle.kiss2.specs.declared.standing.Said.{Said}
use Rattle.kiss2.specs.Faults.{fault_in, fault_where, first_of, row_fault}
use Rattle.kiss2.specs.Inner.ReaderState.{Stands, names_on, names_seen, once_after}
use Rattle.kiss2.specs.Standing.{each_once, row_lines, state_names}
use Rattle.kiss2.specs.Words.{current_field, is_name, line_kind_of, next_field}
use Rattle.kiss2.specs.Laws.Once.{each_once-append, put_both, seen_count}
use Rattle.kiss2.specs.Laws.Stood.{fault_form, rows_more, stay}

module _ (said : Said) (before : List Line) (line : Line) (stands : Stands said before) (clean : line.bad ≡ false) (kind : line_kind_of line ≡ Row) where
  -- its fault, by what is kept
  pub row_form : fault_in before line ≡ row_fault said.inputs said.outputs said.rows (state_names (before ++ line ∷ [])) line
  row_form = fault_form before line Row clean kind refl ∙ rw (stands.inputs, stands.outputs, stands.rows) refl

  names_more : names_seen (before ++ line ∷ []) ≡ once_after (names_seen before) (names_on line)
  unfolding names_seen
  names_more =
      ap (λ rows. each_once (flat_map names_on rows)) (rows_more before line kind)
      ∙ (ap each_once (sym (flat_map_more names_on [] (row_lines before) line)) ∙ each_once-append (flat_map names_on (row_lines before)) (names_on line))

  -- the names after it
  module _ (first second : List (List ℕ)) (put_first : first ≡ once_after said.states (filter is_name (current_field line ∷ []))) (put_second : second ≡ once_after first (filter is_name (next_field line ∷ []))) where
    pub names_put : second ≡ names_seen (before ++ line ∷ [])
    names_put =
        put_second
        ∙ (ap (λ names. once_after names (filter is_name (next_field line ∷ []))) put_first
        ∙ (put_both said.states (current_field line) (next_field line)
        ∙ (ap (λ names. once_after names (names_on line)) stands.states ∙ sym names_more)))

    -- how many states there are with it
    pub count_put : length second ≡ length (state_names (before ++ line ∷ []))
    count_put = ap length names_put ∙ seen_count (before ++ line ∷ [])

    pub row_stands : Stands (record said { rows = said.rows + 1; states = second }) (before ++ line ∷ [])
    row_stands =
        let kept = stay before line Row kind in
        record {
          inputs = stands.inputs ∙ kept.inputs refl;
          outputs = stands.outputs ∙ kept.outputs refl;
          row_word = stands.row_word ∙ kept.row_word refl;
          state_word = stands.state_word ∙ kept.state_word refl;
          reset = stands.reset ∙ kept.reset refl;
          input_names = stands.input_names ∙ kept.input_names refl;
          output_names = stands.output_names ∙ kept.output_names refl;
          rows = ap (λ n. n + 1) stands.rows ∙ sym (ap length (rows_more before line kind) ∙ length_push (row_lines before) line);
          states = names_put;
        }

-- the last faults of a row
pub too_many_states : (states : List (List ℕ)) (good : Bool) → 256 < length states
    → first_of (fault_where (ltb 256 (length states)) (OverLimit States 257) ∷ fault_where (not good) BadOutput ∷ []) ≡ Some (OverLimit States 257)
too_many_states states good many = ap (λ t. first_of (fault_where t (OverLimit States 257) ∷ fault_where (not good) BadOutput ∷ [])) (lt-ltb 256 (length states) many)

pub bad_output : (states : List (List ℕ)) (good : Bool) → length states ≤ 256 → good ≡ false
    → first_of (fault_where (ltb 256 (length states)) (OverLimit States 257) ∷ fault_where (not good) BadOutput ∷ []) ≡ Some BadOutput
bad_output states good few bad =
    ap (λ t. first_of (fault_where t (OverLimit States 257) ∷ fault_where (not good) BadOutput ∷ [])) (le-ltb 256 (length states) few)
    ∙ ap (λ t. first_of (fault_where (not t) BadOutput ∷ [])) bad

pub good_row : (states : List (List ℕ)) (good : Bool) → length states ≤ 256 → good ≡ true
    → first_of (fault_where (ltb 256 (length states)) (OverLimit States 257) ∷ fault_where (not good) BadOutput ∷ []) ≡ None
good_row states good few fine =
    ap (λ t. first_of (fault_where t (OverLimit States 257) ∷ fault_where (not good) BadOutput ∷ [])) (le-ltb 256 (length states) few)
    ∙ ap (λ t. first_of (fault_where (not t) BadOutput ∷ [])) fine
