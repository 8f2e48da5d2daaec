use Rattle.std.proofs.Common.{◌≡◌, refl, ℕ, List, [], ◌∷◌, Some, None, ap, sym, ◌∙◌, subst}
use Rattle.std.specs.Prelude.{Option, codes, slice_get}
use Rattle.std.proofs.lemmas.Option.{same_Some}
use Rattle.cubes.specs.Cube.{text_of}
use Rattle.kiss_file.specs.Names.{AreDistinct}
use Rattle.kiss_file.specs.declared.file.KissFile.{KissFile}
use Rattle.kiss_file.specs.declared.file.KissRow.{KissRow}
use Rattle.kiss2.specs.Faults.{fault_in}
use Rattle.kiss2.specs.Kiss.{HaveNoFault, Kiss, closing_fault, lines_read}
use Rattle.kiss2.specs.Standing.{each_once, state_names}
use Rattle.kiss2.specs.Words.{care_in, kind_of_field, value_in}
use Rattle.kiss2_laws.specs.Worked.{text, worked_lines}
use Rattle.kiss2.specs.Laws.Faultless.{faultless_none}
use Rattle.kiss2.specs.Laws.Made.{a_record}
use Rattle.kiss2_laws.proofs.Scanning.{scanned_none, three_mapped, three_rows}
use Rattle.kiss2.specs.Laws.SameRecord.{next_once, number_once, states_distinct}
use Rattle.kiss2_laws.proofs.worked.worked_text.Goals as goal

fine : HaveNoFault (lines_read (text worked_lines)) × (closing_fault (lines_read (text worked_lines)) ≡ None)
unfolding lines_read fault_in kind_of_field state_names each_once
fine = scanned_none [] _ faultless_none refl

pub returns-clause-said : goal.returns-clause-said
returns-clause-said c = let made = a_record (lines_read (text worked_lines)) fine.0 fine.1 in (made.0, record { faultless = fine.0; closed = fine.1; whole = made.1 })

pub returns-clause-counts : goal.returns-clause-counts
unfolding lines_read kind_of_field
returns-clause-counts c F read = (same_Some F.inputs 2 (sym read.whole.inputs), same_Some F.outputs 2 (sym read.whole.outputs))

the_states : (F : KissFile) → Kiss (text worked_lines) F → F.states ≡ codes "a" ∷ codes "b" ∷ []
unfolding lines_read kind_of_field state_names each_once
the_states F read = read.whole.states

pub returns-clause-states : goal.returns-clause-states
returns-clause-states c F read = the_states F read

-- the names of the states are apart
apart : (F : KissFile) → Kiss (text worked_lines) F → AreDistinct F.states
apart F read = subst AreDistinct (sym read.whole.states) (states_distinct (lines_read (text worked_lines)))

named : (F : KissFile) → Kiss (text worked_lines) F → (n : ℕ) (name : List ℕ) → slice_get (codes "a" ∷ codes "b" ∷ []) n ≡ Some name → slice_get F.states n ≡ Some name
named F read n name is = ap (λ names. slice_get names n) (the_states F read) ∙ is

pub returns-clause-reset : goal.returns-clause-reset
unfolding lines_read kind_of_field
returns-clause-reset c F read = number_once F.states (codes "b") F.reset 1 (apart F read) read.whole.reset (named F read 1 (codes "b") refl)

pub returns-clause-names : goal.returns-clause-names
unfolding lines_read kind_of_field
returns-clause-names c F read = (read.whole.input_names, read.whole.output_names)

-- the numbers of the rows
record IsRead (row : KissRow) (cube : List ℕ) (from : ℕ) (to : Option ℕ) (care value : ℕ) : Type 0 where
  cube_is : text_of row.cube ≡ cube
  from_is : row.from ≡ from
  to_is : row.to ≡ to
  care_is : row.care ≡ care
  value_is : row.value ≡ value

rows : (F : KissFile) → Kiss (text worked_lines) F → (x y z : KissRow) × (F.rows ≡ x ∷ y ∷ z ∷ []) × IsRead x (codes "1-") 0 (Some 1) 1 0 × IsRead y (codes "--") 1 None 3 3 × IsRead z (codes "00") 0 (Some 1) 2 2
unfolding lines_read kind_of_field care_in value_in
rows F read =
    let three = three_rows F.states _ _ _ F.rows read.whole.rows in
    let distinct = apart F read in
    let a = named F read 0 (codes "a") refl in
    let b = named F read 1 (codes "b") refl in (
      three.0,
      three.1,
      three.2,
      three.3.are,
      record { cube_is = three.3.first.cube; from_is = number_once F.states (codes "a") three.0.from 0 distinct three.3.first.from a; to_is = next_once F.states (codes "b") three.0.to (Some 1) distinct three.3.first.to (refl, b); care_is = three.3.first.care; value_is = three.3.first.value },
      record { cube_is = three.3.second.cube; from_is = number_once F.states (codes "b") three.1.from 1 distinct three.3.second.from b; to_is = next_once F.states (codes "*") three.1.to None distinct three.3.second.to refl; care_is = three.3.second.care; value_is = three.3.second.value },
      record { cube_is = three.3.third.cube; from_is = number_once F.states (codes "a") three.2.from 0 distinct three.3.third.from a; to_is = next_once F.states (codes "b") three.2.to (Some 1) distinct three.3.third.to (refl, b); care_is = three.3.third.care; value_is = three.3.third.value },
    )

pub returns-clause-cubes : goal.returns-clause-cubes
returns-clause-cubes c F read = let r = rows F read in three_mapped (λ row. text_of row.cube) F.rows r.0 r.1 r.2 _ _ _ r.3 r.4.cube_is r.5.cube_is r.6.cube_is

pub returns-clause-from : goal.returns-clause-from
returns-clause-from c F read = let r = rows F read in three_mapped (λ row. row.from) F.rows r.0 r.1 r.2 _ _ _ r.3 r.4.from_is r.5.from_is r.6.from_is

pub returns-clause-to : goal.returns-clause-to
returns-clause-to c F read = let r = rows F read in three_mapped (λ row. row.to) F.rows r.0 r.1 r.2 _ _ _ r.3 r.4.to_is r.5.to_is r.6.to_is

pub returns-clause-care : goal.returns-clause-care
returns-clause-care c F read = let r = rows F read in three_mapped (λ row. row.care) F.rows r.0 r.1 r.2 _ _ _ r.3 r.4.care_is r.5.care_is r.6.care_is

pub returns-clause-value : goal.returns-clause-value
returns-clause-value c F read = let r = rows F read in three_mapped (λ row. row.value) F.rows r.0 r.1 r.2 _ _ _ r.3 r.4.value_is r.5.value_is r.6.value_is
