-- Searches over the rows of a state, which keep the lesser of what they found.
use Rattle.std.proofs.Common.{◌≡◌, ℕ, ◌+◌, ◌<◌, ◌≤◌, ◌^◌, Bool, List, length, get_or, Option, Some, IfSome, Contains, slice_get, sym, ◌∙◌, subst, arith, ap}
use Rattle.std.proofs.lemmas.Option.{slice_get_within, get_or_from_slice_get}
use Rattle.cubes.specs.Cube.{Holds, HoldsNumber}
use Rattle.cubes.specs.Symbol.{symbol_of}
use Rattle.kiss_file.specs.declared.file.KissFile.{KissFile}
use Rattle.kiss_file.specs.declared.file.KissRow.{KissRow}
use Rattle.kiss_file.specs.Machine.{IsRowAt}
use Rattle.state_pairs.specs.RowLabels.{IsAloneAt, IsApartAt, IsOfState, IsSearched, MeetsWanted, SayTwo, SaysAlone}
use Rattle.state_rows.specs.Least.{IsMetBy, lesser_of}
use Rattle.state_rows.specs.Places.{IsNumberOf}
use Rattle.state_pairs.specs.Table.{IsTable}
use Rattle.state_pairs.specs.Laws.Asking.{lawful_row, looked_at, number_of_row}
use Rattle.state_rows.specs.Laws.Least.{lesser_has, met_left, met_right}

module _ (rows : List KissRow) (numbers : List ℕ) (count : ℕ) (Wanted : KissRow → ℕ → Type 0) (found other : Option ℕ) (least : Bool) (row : KissRow) where
  -- one more row was searched
  pub meets_more : MeetsWanted rows numbers count Wanted found least → count < length numbers → slice_get rows (get_or numbers count 0) ≡ Some row
      → ((y : ℕ) → Wanted row y → IsMetBy other least y) → MeetsWanted rows numbers (count + 1) Wanted (lesser_of found other) least
  meets_more known inside at_row now =
      looked_at rows numbers count (λ r. (y : ℕ) → Wanted r y → IsMetBy (lesser_of found other) least y) row
      (λ k d r before at y wants. met_left found other least y (known k d r before at y wants))
      inside at_row (λ y wants. met_right found other least y (now y wants))

module _ (F : KissFile) (numbers : List ℕ) (count : ℕ) (Wanted : KissRow → ℕ → Type 0) (Found : ℕ → Type 0) (found other result : Option ℕ) (least : Bool) (row : KissRow) where
  pub searched_more : IsSearched F numbers count Wanted Found found least → result ≡ lesser_of found other → count < length numbers
      → slice_get F.rows (get_or numbers count 0) ≡ Some row → IfSome other Found → IfSome other (λ x. x < 2 ^ F.inputs)
      → ((y : ℕ) → Wanted row y → IsMetBy other least y) → IsSearched F numbers (count + 1) Wanted Found result least
  searched_more known is inside at_row some within now =
      subst (λ (o : Option ℕ). IsSearched F numbers (count + 1) Wanted Found o least) (sym is)
      (record {
        some = lesser_has Found found other known.some some;
        within = lesser_has (λ x. x < 2 ^ F.inputs) found other known.within within;
        met = meets_more F.rows numbers count Wanted found other least row known.met inside at_row now;
      })

-- with all numbers of a state searched, each row of the state was
pub meets_all : (F : KissFile) (s : ℕ) (numbers : List ℕ) (count : ℕ) (Wanted : KissRow → ℕ → Type 0) (found : Option ℕ) (least : Bool)
    → ((i : ℕ) (row : KissRow) → slice_get F.rows i ≡ Some row → row.from ≡ s → Contains numbers i)
    → MeetsWanted F.rows numbers count Wanted found least → length numbers ≤ count
    → (row : KissRow) → IsOfState F s row → (y : ℕ) → Wanted row y → IsMetBy found least y
meets_all F s numbers count Wanted found least each known all row (among, from) y wants =
    let at_number = number_of_row F row among in
    let place = each among.0 row at_number from in
    known place.0 among.0 row (omega (arith, place.1)) (subst (λ (n : ℕ). slice_get F.rows n ≡ Some row) (sym place.2) at_number) y wants

-- a row at a number of the state is one of the state
pub row_of : (F : KissFile) (s i : ℕ) (row : KissRow) → IsNumberOf F s i → slice_get F.rows i ≡ Some row → IsOfState F s row
row_of F s i row (there, at_there, from) at_row =
    let same : there ≡ row = (let both : Some there ≡ Some row = sym at_there ∙ at_row in cc) in
    ((i, slice_get_within F.rows i row at_row, get_or_from_slice_get F.rows i row row at_row), ap (λ (r : KissRow). r.from) (sym same) ∙ from)

module _ (F : KissFile) (table : IsTable F) (s x : ℕ) (row : KissRow) where
  -- a row of the state that holds the symbol is a row there
  pub at_from_held : IsOfState F s row → HoldsNumber row.cube x → IsRowAt F s (symbol_of F.inputs x) row
  at_from_held (among, from) held = record {
    among = among;
    from = from;
    held = subst (λ (w : ℕ). Holds row.cube (symbol_of w x)) ((lawful_row F table among.0 row (number_of_row F row among)).width) held;
  }

  pub row_from_at : IsRowAt F s (symbol_of F.inputs x) row → IsOfState F s row
  row_from_at at = (at.among, at.from)

  pub held_from_at : IsRowAt F s (symbol_of F.inputs x) row → HoldsNumber row.cube x
  held_from_at at = subst (λ (w : ℕ). Holds row.cube (symbol_of w x)) (sym ((lawful_row F table at.among.0 row (number_of_row F row at.among)).width)) at.held

-- ---- what rows say of two states
module _ (F : KissFile) (table : IsTable F) (said : KissRow → Option ℕ) (s t : ℕ) where
  -- a row of the first state that is apart from one of the second
  pub two_of_row : (row : KissRow) → IsOfState F s row → (x : ℕ) → IsApartAt said F t row x → SayTwo said F s t x
  two_of_row row of_state x (other, of_other, apart) =
      let differ = apart.differ in (
        differ.0,
        differ.1,
        (row, at_from_held F table s x row of_state apart.first, differ.2),
        (other, at_from_held F table t x other of_other apart.second, differ.3),
        differ.4,
      )

  pub apart_wanted : (x : ℕ) → SayTwo said F s t x → (row : KissRow) × IsOfState F s row × IsApartAt said F t row x
  apart_wanted x (v, w, (row, at, says), (other, also, tells), two) = (
    row,
    row_from_at F table s x row at,
    (
      other,
      row_from_at F table t x other also,
      record {
        first = held_from_at F table s x row at;
        second = held_from_at F table t x other also;
        differ = (v, w, says, tells, two);
      },
    ),
  )

  -- a row of the first state that says what no row of the second does
  pub alone_of_row : (label : ℕ) (row : KissRow) → IsOfState F s row → (x : ℕ) → IsAloneAt said F t label row x → SaysAlone said F s t label x
  alone_of_row label row of_state x (v, held, says, two, silent) = (v, (row, at_from_held F table s x row of_state held, says), two, silent)

  pub alone_wanted : (label x : ℕ) → SaysAlone said F s t label x → (row : KissRow) × IsOfState F s row × IsAloneAt said F t label row x
  alone_wanted label x (v, (row, at, says), two, silent) =
      (row, row_from_at F table s x row at, (v, held_from_at F table s x row at, says, two, silent))

-- two labels that differ, told of the states the other way round
pub two_turned : (F : KissFile) (said : KissRow → Option ℕ) (s t x : ℕ) → SayTwo said F s t x → SayTwo said F t s x
two_turned F said s t x (v, w, first, second, two) = (w, v, second, first, λ same. two (sym same))
