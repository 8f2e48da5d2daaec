use Rattle.std.proofs.Common.{◌≡◌, ℕ, ◌≤◌, List, [], length, get_or, None, Some, All, Contains, ap, sym, ◌∙◌, subst, arith}
use Rattle.std.specs.List.{AllZip}
use Rattle.std.specs.Option.{IfNone, IfSome}
use Rattle.std.proofs.lemmas.List.Elements.{All-weaker}
use Rattle.hs_io.specs.declared.lines.Line.{Line}
use Rattle.kiss_file.specs.declared.file.KissRow.{KissRow}
use Rattle.kiss2.specs.declared.standing.Said.{Said}
use Rattle.kiss2.specs.Inner.FaultlessLines.{IsGoodRow, IsKnownRow}
use Rattle.kiss2.specs.Inner.ReaderState.{Keeps, names_in_columns, once_after}
use Rattle.kiss2.specs.Kiss.{IsRowOf, closing_fault}
use Rattle.kiss2.specs.Standing.{inputs_said, names_in_column, row_lines, state_names}
use Rattle.kiss2.specs.Laws.Building.{columns, columns_named, once_after-longer}
use Rattle.kiss2.specs.Laws.Closing.{reset_is_known, reset_number, some_rows, zip_some}
use Rattle.kiss2.specs.Laws.GoodLines.{counts_there, few, inputs_range, outputs_range, rows_good, rows_known}
use Rattle.kiss2.proofs.record.fill_table.Goals as goal

-- the rows have four fields
long_rows : (all rows : List Line) (said : Said) (k : ℕ) → Keeps said rows all → closing_fault all ≡ None → said.inputs ≡ Some k → All (λ line. length line.fields ≡ 4) rows
long_rows all rows said k keeps closed is =
    let counts = counts_there all keeps.faultless (some_rows all closed) in
    let inputs : inputs_said all ≡ Some k = sym keeps.stands.inputs ∙ is in
    subst (All (λ line. length line.fields ≡ 4)) (sym keeps.rows)
    (All-weaker (IsGoodRow k counts.1) (λ line. length line.fields ≡ 4) (λ line good. good.fields) (row_lines all) (rows_good all keeps.faultless k counts.1 inputs counts.3))

-- the names of one column after those of the other
both_columns : (rows : List Line) (start first second : List (List ℕ)) → start ≡ [] → first ≡ once_after start (names_in_column 1 rows) → second ≡ once_after first (names_in_column 2 rows) → second ≡ names_in_columns rows
both_columns rows start first second empty one two =
    two ∙ (ap (λ names. once_after names (names_in_column 2 rows)) (one ∙ ap (λ names. once_after names (names_in_column 1 rows)) empty) ∙ columns rows)

pub add_column-requires-clause-few : goal.add_column-requires-clause-few
add_column-requires-clause-few c =
    let all = c.requires.kept.0 in
    let keeps = c.requires.kept.1 in
    let rows = c.args.lines.now in
    let first : once_after c.args.table.now.states (names_in_column 1 rows) ≡ once_after [] (names_in_column 1 rows) = ap (λ names. once_after names (names_in_column 1 rows)) c.requires.no_states in
    let most : length (names_in_columns rows) ≤ 256 = subst (λ names. length names ≤ 256) (sym (columns_named rows all keeps.rows)) (few all keeps.faultless).0 in
    omega (arith, ap length first, ap length (columns rows), once_after-longer (once_after [] (names_in_column 1 rows)) (names_in_column 2 rows))

pub add_column-requires-clause-long : goal.add_column-requires-clause-long
add_column-requires-clause-long c = long_rows c.requires.kept.0 c.args.lines.now c.args.said.now c.args.inputs c.requires.kept.1 c.requires.kept.2 c.requires.inputs

pub add_column-requires-2-clause-few : goal.add_column-requires-2-clause-few
add_column-requires-2-clause-few c =
    let all = c.requires.kept.0 in
    let keeps = c.requires.kept.1 in
    let rows = c.args.lines.now in
    let first : c.add_column.new.names ≡ once_after [] (names_in_column 1 rows) = c.in_ok-add_column.ensures ∙ ap (λ names. once_after names (names_in_column 1 rows)) c.requires.no_states in
    let most : length (names_in_columns rows) ≤ 256 = subst (λ names. length names ≤ 256) (sym (columns_named rows all keeps.rows)) (few all keeps.faultless).0 in
    omega (arith, ap length (ap (λ names. once_after names (names_in_column 2 rows)) first ∙ columns rows))

pub add_column-requires-2-clause-long : goal.add_column-requires-2-clause-long
add_column-requires-2-clause-long c = long_rows c.requires.kept.0 c.args.lines.now c.args.said.now c.args.inputs c.requires.kept.1 c.requires.kept.2 c.requires.inputs

pub add_rows-requires : goal.add_rows-requires
add_rows-requires c =
    let all = c.requires.kept.0 in
    let keeps = c.requires.kept.1 in
    let k = c.args.inputs in
    let counts = counts_there all keeps.faultless (some_rows all c.requires.kept.2) in
    let o = counts.1 in
    let inputs : inputs_said all ≡ Some k = sym keeps.stands.inputs ∙ c.requires.inputs in
    let good = rows_good all keeps.faultless k o inputs counts.3 in
    let range = inputs_range all keeps.faultless k inputs in
    let named : c.add_column-2.new.names ≡ state_names all = both_columns c.args.lines.now c.args.table.now.states c.add_column.new.names c.add_column-2.new.names c.requires.no_states c.in_ok-add_column.ensures c.in_ok-add_column-2.ensures ∙ columns_named c.args.lines.now all keeps.rows in
    record {
      empty = c.requires.no_rows;
      some_input = range.0;
      inputs = range.1;
      states = subst (λ names. length names ≤ 256) (sym named) (few all keeps.faultless).0;
      good = (o, (outputs_range all keeps.faultless o counts.3).1, subst (All (IsGoodRow k o)) (sym keeps.rows) good);
      known = subst (λ states. All (IsKnownRow states) c.args.lines.now) (sym named) (subst (All (IsKnownRow (state_names all))) (sym keeps.rows) (rows_known all k o good));
    }

pub reset_of-table-requires : goal.reset_of-table-requires
reset_of-table-requires c =
    let all = c.requires.kept.0 in
    let keeps = c.requires.kept.1 in
    let known = reset_is_known all c.args.said.now.reset c.requires.kept.2 keeps.stands.reset in
    let some = some_rows all c.requires.kept.2 in
    let named : c.add_column-2.new.names ≡ state_names all = both_columns c.args.lines.now c.args.table.now.states c.add_column.new.names c.add_column-2.new.names c.requires.no_states c.in_ok-add_column.ensures c.in_ok-add_column-2.ensures ∙ columns_named c.args.lines.now all keeps.rows in
    let zipped = subst (λ lines. AllZip (IsRowOf c.add_column-2.new.names) lines c.add_rows.new.rows) keeps.rows c.in_ok-add_rows.ensures in
    record {
      few = subst (λ names. length names ≤ 256) (sym named) (few all keeps.faultless).0;
      known = subst (λ states. IfSome c.args.said.now.reset (λ line. Contains states line.name)) (sym named) known;
      some_row = rw c.as_slice.ensures (zip_some (IsRowOf c.add_column-2.new.names) (row_lines all) c.add_rows.new.rows zipped some);
    }

pub returns : goal.returns
returns c all keeps closed =
    let some = some_rows all closed in
    let named : c.add_column-2.new.names ≡ state_names all = both_columns c.args.lines.now c.args.table.now.states c.add_column.new.names c.add_column-2.new.names c.requires.no_states c.in_ok-add_column.ensures c.in_ok-add_column-2.ensures ∙ columns_named c.args.lines.now all keeps.rows in
    let zipped = subst (λ lines. AllZip (IsRowOf c.add_column-2.new.names) lines c.add_rows.new.rows) keeps.rows c.in_ok-add_rows.ensures in
    record {
      states = named;
      reset = reset_number all c.add_column-2.new.names c.add_rows.new.rows c.args.said.now.reset c.reset_of-table.result keeps.stands.reset c.reset_of-table.ensures.named
          (subst (λ rows. IfNone c.args.said.now.reset ((d : KissRow) → c.reset_of-table.result ≡ (get_or rows 0 d).from)) c.as_slice.ensures c.reset_of-table.ensures.first) zipped some;
      rows = zipped;
    }
