use Rattle.std.proofs.Common.{◌≡◌, refl, ℕ, [], ◌∷◌, Some}
use Rattle.std.specs.Prelude.{Option, codes}
use Rattle.kiss_file.specs.declared.file.KissFile.{KissFile}
use Rattle.kiss_file.specs.declared.file.KissRow.{KissRow}
use Rattle.kiss2.specs.Faults.{fault_in}
use Rattle.kiss2.specs.Kiss.{Kiss, lines_read}
use Rattle.kiss2.specs.Standing.{each_once, state_names}
use Rattle.kiss2.specs.Words.{kind_of_field}
use Rattle.kiss2_laws.specs.Worked.{text, unset_lines}
use Rattle.kiss2_laws.proofs.WorkedTexts.{next_said, number_said, reset_said, said_by, states_said}
use Rattle.kiss2_laws.proofs.Scanning.{three_mapped, three_rows}
use Rattle.kiss2_laws.proofs.worked.worked_start.Goals as goal

pub returns-clause-said : goal.returns-clause-said
unfolding lines_read fault_in kind_of_field state_names each_once
returns-clause-said c = said_by (text unset_lines) refl

pub returns-clause-states : goal.returns-clause-states
unfolding lines_read kind_of_field state_names each_once
returns-clause-states c F read = states_said (text unset_lines) F read _ refl

pub returns-clause-reset : goal.returns-clause-reset
unfolding lines_read kind_of_field state_names each_once
returns-clause-reset c F read = reset_said (text unset_lines) F read _ refl 0 (codes "b") refl refl

-- the states of the rows
record Joins (row : KissRow) (from : ℕ) (to : Option ℕ) : Type 0 where
  from_is : row.from ≡ from
  to_is : row.to ≡ to

rows : (F : KissFile) → Kiss (text unset_lines) F → (x y z : KissRow) × (F.rows ≡ x ∷ y ∷ z ∷ []) × Joins x 0 (Some 1) × Joins y 0 (Some 1) × Joins z 1 (Some 2)
unfolding lines_read kind_of_field state_names each_once
rows F read =
    let three = three_rows F.states _ _ _ F.rows read.whole.rows in
    let bytes = text unset_lines in (
      three.0,
      three.1,
      three.2,
      three.3.are,
      record { from_is = number_said bytes F read _ refl 0 (codes "b") three.0.from three.3.first.from refl; to_is = next_said bytes F read _ refl (codes "a") three.0.to 1 three.3.first.to refl refl },
      record { from_is = number_said bytes F read _ refl 0 (codes "b") three.1.from three.3.second.from refl; to_is = next_said bytes F read _ refl (codes "a") three.1.to 1 three.3.second.to refl refl },
      record { from_is = number_said bytes F read _ refl 1 (codes "a") three.2.from three.3.third.from refl; to_is = next_said bytes F read _ refl (codes "--") three.2.to 2 three.3.third.to refl refl },
    )

pub returns-clause-from : goal.returns-clause-from
returns-clause-from c F read = let r = rows F read in three_mapped (λ row. row.from) F.rows r.0 r.1 r.2 _ _ _ r.3 r.4.from_is r.5.from_is r.6.from_is

pub returns-clause-to : goal.returns-clause-to
returns-clause-to c F read = let r = rows F read in three_mapped (λ row. row.to) F.rows r.0 r.1 r.2 _ _ _ r.3 r.4.to_is r.5.to_is r.6.to_is
