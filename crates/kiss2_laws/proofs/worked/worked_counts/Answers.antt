use Rattle.std.proofs.Common.{◌≡◌, refl, ℕ, List, [], ◌∷◌, Some, None, ap, sym, ◌∙◌, subst}
use Rattle.std.specs.Prelude.{Option, codes, slice_get}
use Rattle.kiss_file.specs.Names.{AreDistinct}
use Rattle.kiss_file.specs.declared.file.KissFile.{KissFile}
use Rattle.kiss_file.specs.declared.file.KissRow.{KissRow}
use Rattle.kiss2.specs.Faults.{fault_in}
use Rattle.kiss2.specs.Kiss.{HaveNoFault, Kiss, closing_fault, lines_read}
use Rattle.kiss2.specs.Standing.{each_once, state_names}
use Rattle.kiss2.specs.Words.{kind_of_field}
use Rattle.kiss2_laws.specs.Worked.{passing_lines, text}
use Rattle.kiss2.specs.Laws.Faultless.{faultless_none}
use Rattle.kiss2.specs.Laws.Made.{a_record}
use Rattle.kiss2_laws.proofs.Scanning.{scanned_none, three_mapped, three_rows}
use Rattle.kiss2.specs.Laws.SameRecord.{next_once, number_once, states_distinct}
use Rattle.kiss2_laws.proofs.worked.worked_counts.Goals as goal

fine : HaveNoFault (lines_read (text passing_lines)) × (closing_fault (lines_read (text passing_lines)) ≡ None)
unfolding lines_read fault_in kind_of_field state_names each_once
fine = scanned_none [] _ faultless_none refl

pub returns-clause-said : goal.returns-clause-said
returns-clause-said c = let made = a_record (lines_read (text passing_lines)) fine.0 fine.1 in (made.0, record { faultless = fine.0; closed = fine.1; whole = made.1 })

the_states : (F : KissFile) → Kiss (text passing_lines) F → F.states ≡ codes "a" ∷ codes "b" ∷ codes "c" ∷ codes "d" ∷ []
unfolding lines_read kind_of_field state_names each_once
the_states F read = read.whole.states

pub returns-clause-states : goal.returns-clause-states
returns-clause-states c F read = the_states F read

-- the names of the states are apart
apart : (F : KissFile) → Kiss (text passing_lines) F → AreDistinct F.states
apart F read = subst AreDistinct (sym read.whole.states) (states_distinct (lines_read (text passing_lines)))

named : (F : KissFile) → Kiss (text passing_lines) F → (n : ℕ) (name : List ℕ) → slice_get (codes "a" ∷ codes "b" ∷ codes "c" ∷ codes "d" ∷ []) n ≡ Some name → slice_get F.states n ≡ Some name
named F read n name is = ap (λ names. slice_get names n) (the_states F read) ∙ is

pub returns-clause-reset : goal.returns-clause-reset
unfolding lines_read kind_of_field
returns-clause-reset c F read = number_once F.states (codes "d") F.reset 3 (apart F read) read.whole.reset (named F read 3 (codes "d") refl)

-- the states of the rows
record Joins (row : KissRow) (from : ℕ) (to : Option ℕ) : Type 0 where
  from_is : row.from ≡ from
  to_is : row.to ≡ to

rows : (F : KissFile) → Kiss (text passing_lines) F → (x y z : KissRow) × (F.rows ≡ x ∷ y ∷ z ∷ []) × Joins x 0 (Some 2) × Joins y 1 None × Joins z 2 (Some 3)
unfolding lines_read kind_of_field
rows F read =
    let three = three_rows F.states _ _ _ F.rows read.whole.rows in
    let distinct = apart F read in (
      three.0,
      three.1,
      three.2,
      three.3.are,
      record { from_is = number_once F.states (codes "a") three.0.from 0 distinct three.3.first.from (named F read 0 (codes "a") refl); to_is = next_once F.states (codes "c") three.0.to (Some 2) distinct three.3.first.to (refl, named F read 2 (codes "c") refl) },
      record { from_is = number_once F.states (codes "b") three.1.from 1 distinct three.3.second.from (named F read 1 (codes "b") refl); to_is = next_once F.states (codes "-") three.1.to None distinct three.3.second.to refl },
      record { from_is = number_once F.states (codes "c") three.2.from 2 distinct three.3.third.from (named F read 2 (codes "c") refl); to_is = next_once F.states (codes "d") three.2.to (Some 3) distinct three.3.third.to (refl, named F read 3 (codes "d") refl) },
    )

pub returns-clause-from : goal.returns-clause-from
returns-clause-from c F read = let r = rows F read in three_mapped (λ row. row.from) F.rows r.0 r.1 r.2 _ _ _ r.3 r.4.from_is r.5.from_is r.6.from_is

pub returns-clause-to : goal.returns-clause-to
returns-clause-to c F read = let r = rows F read in three_mapped (λ row. row.to) F.rows r.0 r.1 r.2 _ _ _ r.3 r.4.to_is r.5.to_is r.6.to_is
