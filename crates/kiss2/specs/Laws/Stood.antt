-- What stands after one line more, and what a line's fault is.
use Rattle.std.proofs.Common.{◌≡◌, ℕ, Bool, true, false, cond, List, [], ◌∷◌, ◌++◌, length, Option, Some, None, ap, sym, ◌∙◌, refl, append-nil}
use Rattle.std.specs.Prelude.{drop, slice_index_or}
use Rattle.std.specs.List.{flat_map}
use Rattle.std.specs.Option.{is_some, option_map, option_or}
use Rattle.std.proofs.lemmas.Bool.{false≢true}
use Rattle.std.proofs.lemmas.List.Folds.{find-append}
use Rattle.std.proofs.lemmas.List.Elements.{filter-append}
use Rattle.hs_io.specs.declared.lines.Line.{Line}
use Rattle.kiss2.specs.declared.fault.KissKind.{KissKind}
use Rattle.kiss2.specs.declared.fault.KissKind.TheVariants.{BadByte, Repeated}
use Rattle.kiss2.specs.declared.line_kind.LineKind.{LineKind}
use Rattle.kiss2.specs.declared.line_kind.LineKind.TheVariants.{Blank, End, InputCount, OutputCount, RowCount, StateCount, Reset, InputNames, OutputNames, Row}
use Rattle.kiss2.specs.declared.line_operands.LineFail.{LineFail}
use Rattle.kiss2.specs.declared.line_operands.LineFail.TheVariants.{Fault, NoMemory}
use Rattle.kiss2.specs.declared.standing.Said.{Said}
use Rattle.kiss2.specs.Faults.{fault_in, fault_where, first_of, form_fault, operand_of, stands_again}
use Rattle.kiss2.specs.Standing.{each_once, has_stood, inputs_said, line_with, names_said, outputs_said, row_lines}
use Rattle.kiss2.specs.Words.{field_at, is_of_kind, line_kind_of, decimal_value, operands, same_kind}
use Rattle.kiss2.specs.Inner.ReaderState.{FailsWith, Stands, names_on, names_seen, reset_line}

pub or_none : {X : Type 0} (o : Option X) → option_or o None ≡ o
or_none None = refl
or_none (Some x) = refl

none_from_test : {X : Type 0} (o : Option X) → is_some o ≡ false → o ≡ None
none_from_test None e = refl
none_from_test (Some x) e = cc

pub is_some-map : {X Y : Type 0} (f : X → Y) (o : Option X) → is_some (option_map f o) ≡ is_some o
is_some-map f None = refl
is_some-map f (Some x) = refl

only : (fault : Option KissKind) → first_of (fault ∷ []) ≡ fault
only None = refl
only (Some kind) = refl

-- a failure at one fault is one at the same fault
pub fails_at : {fault other : Option KissKind} (fail : LineFail) → fault ≡ other → FailsWith other fail → FailsWith fault fail
fails_at (Fault kind) same fails = same ∙ fails
fails_at NoMemory same fails = tt

pub skip : (test : Bool) (kind : KissKind) (faults : List (Option KissKind)) → test ≡ false → first_of (fault_where test kind ∷ faults) ≡ first_of faults
skip test kind faults passes = ap (λ t. first_of (fault_where t kind ∷ faults)) passes

-- the one field after a word
pub operand_field : (line : Line) → operand_of (operands line) ≡ field_at 1 line
operand_field line = first_after line.fields where
  first_after : (fields : List (List ℕ)) → operand_of (drop 1 fields) ≡ slice_index_or fields 1 []
  first_after [] = refl
  first_after (x ∷ []) = refl
  first_after (x ∷ y ∷ fields) = refl

module _ (before : List Line) (line : Line) where
  -- a line of another kind
  pub other : (kind own : LineKind) → line_kind_of line ≡ own → same_kind kind own ≡ false → line_with kind (before ++ line ∷ []) ≡ line_with kind before
  other kind own is apart =
      find-append (is_of_kind kind) before (line ∷ [])
      ∙ ap (λ t. option_or (line_with kind before) (cond t (Some line) None)) (ap (same_kind kind) is ∙ apart)
      ∙ or_none (line_with kind before)

  -- the first line of its kind
  pub own : (kind : LineKind) → line_kind_of line ≡ kind → same_kind kind kind ≡ true → has_stood kind before ≡ false → line_with kind (before ++ line ∷ []) ≡ Some line
  own kind is itself fresh =
      find-append (is_of_kind kind) before (line ∷ [])
      ∙ ap (λ t. option_or (line_with kind before) (cond t (Some line) None)) (ap (same_kind kind) is ∙ itself)
      ∙ ap (λ o. option_or o (Some line)) (none_from_test (line_with kind before) fresh)

  pub rows_stay : (kind : LineKind) → line_kind_of line ≡ kind → same_kind Row kind ≡ false → row_lines (before ++ line ∷ []) ≡ row_lines before
  rows_stay kind is apart =
      filter-append (is_of_kind Row) before (line ∷ [])
      ∙ ap (λ t. row_lines before ++ cond t (line ∷ []) []) (ap (same_kind Row) is ∙ apart)
      ∙ append-nil (row_lines before)

  pub rows_more : line_kind_of line ≡ Row → row_lines (before ++ line ∷ []) ≡ row_lines before ++ line ∷ []
  rows_more is =
      filter-append (is_of_kind Row) before (line ∷ []) ∙ ap (λ t. row_lines before ++ cond t (line ∷ []) []) (ap (same_kind Row) is)

  pub names_stay : (kind : LineKind) → line_kind_of line ≡ kind → same_kind Row kind ≡ false → names_seen (before ++ line ∷ []) ≡ names_seen before
  unfolding names_seen
  names_stay kind is apart = ap (λ rows. each_once (flat_map names_on rows)) (rows_stay kind is apart)

  -- what is kept, where it is of another kind than the line
  pub record Stay (kind : LineKind) : Type 0 where
    pub inputs : same_kind InputCount kind ≡ false → inputs_said before ≡ inputs_said (before ++ line ∷ [])
    pub outputs : same_kind OutputCount kind ≡ false → outputs_said before ≡ outputs_said (before ++ line ∷ [])
    pub row_word : same_kind RowCount kind ≡ false → has_stood RowCount before ≡ has_stood RowCount (before ++ line ∷ [])
    pub state_word : same_kind StateCount kind ≡ false → has_stood StateCount before ≡ has_stood StateCount (before ++ line ∷ [])
    pub reset : same_kind Reset kind ≡ false → option_map reset_line (line_with Reset before) ≡ option_map reset_line (line_with Reset (before ++ line ∷ []))
    pub input_names : same_kind InputNames kind ≡ false → names_said InputNames before ≡ names_said InputNames (before ++ line ∷ [])
    pub output_names : same_kind OutputNames kind ≡ false → names_said OutputNames before ≡ names_said OutputNames (before ++ line ∷ [])
    pub rows : same_kind Row kind ≡ false → length (row_lines before) ≡ length (row_lines (before ++ line ∷ []))
    pub states : same_kind Row kind ≡ false → names_seen before ≡ names_seen (before ++ line ∷ [])

  pub stay : (kind : LineKind) → line_kind_of line ≡ kind → Stay kind
  stay kind is = record {
    inputs = λ apart. sym (ap (option_map (λ l. decimal_value (field_at 1 l))) (other InputCount kind is apart));
    outputs = λ apart. sym (ap (option_map (λ l. decimal_value (field_at 1 l))) (other OutputCount kind is apart));
    row_word = λ apart. sym (ap is_some (other RowCount kind is apart));
    state_word = λ apart. sym (ap is_some (other StateCount kind is apart));
    reset = λ apart. sym (ap (option_map reset_line) (other Reset kind is apart));
    input_names = λ apart. sym (ap (option_map operands) (other InputNames kind is apart));
    output_names = λ apart. sym (ap (option_map operands) (other OutputNames kind is apart));
    rows = λ apart. sym (ap length (rows_stay kind is apart));
    states = λ apart. sym (names_stay kind is apart);
  }

  -- the fault of the line
  pub fault_bad : line.bad ≡ true → fault_in before line ≡ Some BadByte
  unfolding fault_in
  fault_bad bad = rw bad refl

  pub fault_again : (kind : LineKind) → line.bad ≡ false → line_kind_of line ≡ kind → stands_again kind before ≡ true → fault_in before line ≡ Some Repeated
  unfolding fault_in
  fault_again kind clean is again = rw (clean, is, again) refl

  pub fault_form : (kind : LineKind) → line.bad ≡ false → line_kind_of line ≡ kind → stands_again kind before ≡ false → fault_in before line ≡ form_fault kind before line
  unfolding fault_in
  fault_form kind clean is fresh =
      skip line.bad BadByte _ clean
      ∙ (skip (stands_again (line_kind_of line) before) Repeated _ (ap (λ k. stands_again k before) is ∙ fresh)
      ∙ (only (form_fault (line_kind_of line) before line) ∙ ap (λ k. form_fault k before line) is))

  -- that of a line with a word that is allowed once
  pub fault_word : (kind : LineKind) → line.bad ≡ false → line_kind_of line ≡ kind → fault_in before line ≡ first_of (fault_where (stands_again kind before) Repeated ∷ form_fault kind before line ∷ [])
  unfolding fault_in
  fault_word kind clean is =
      skip line.bad BadByte _ clean ∙ ap (λ k. first_of (fault_where (stands_again k before) Repeated ∷ form_fault k before line ∷ [])) is

-- a kind of line that says nothing
abbrev pub says_nothing : LineKind → Bool
says_nothing Blank = true
says_nothing End = true
says_nothing _ = false

-- nothing more is kept of such a line
pub stands_on : {said : Said} (before : List Line) (line : Line) (kind : LineKind) → line_kind_of line ≡ kind → says_nothing kind ≡ true → Stands said before → Stands said (before ++ line ∷ [])
stands_on before line Blank is nothing s =
    let kept = stay before line Blank is in
    record { inputs = s.inputs ∙ kept.inputs refl; outputs = s.outputs ∙ kept.outputs refl; row_word = s.row_word ∙ kept.row_word refl; state_word = s.state_word ∙ kept.state_word refl; reset = s.reset ∙ kept.reset refl; input_names = s.input_names ∙ kept.input_names refl; output_names = s.output_names ∙ kept.output_names refl; rows = s.rows ∙ kept.rows refl; states = s.states ∙ kept.states refl }
stands_on before line End is nothing s =
    let kept = stay before line End is in
    record { inputs = s.inputs ∙ kept.inputs refl; outputs = s.outputs ∙ kept.outputs refl; row_word = s.row_word ∙ kept.row_word refl; state_word = s.state_word ∙ kept.state_word refl; reset = s.reset ∙ kept.reset refl; input_names = s.input_names ∙ kept.input_names refl; output_names = s.output_names ∙ kept.output_names refl; rows = s.rows ∙ kept.rows refl; states = s.states ∙ kept.states refl }
stands_on before line _ is nothing s = absurd (false≢true nothing)
