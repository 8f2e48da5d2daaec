-- What the words of a bundle mark.
use Rattle.std.proofs.Common.{◌≡◌, ℕ, ◌<◌, ◌^◌, ◌⊎◌, List, All, Contains, get_or, Some, inl, inr, slice_get, sym, ap, ◌∙◌, refl, bit_and}
use Rattle.std.proofs.lemmas.List.Elements.{Contains-get_or}
use Rattle.std.specs.Int.{bit_at, bit_not, w64}
use Rattle.list_facts.specs.Laws.Everywhere.{all_at}
use Rattle.cubes.specs.declared.cube.Cube.{Cube}
use Rattle.cubes.specs.Cube.{Meets}
use Rattle.kiss_file.specs.declared.file.KissRow.{KissRow}
use Rattle.kiss_file.specs.Machine.{GiveBoth, NameTwo}
use Rattle.pattern_bundles.specs.Pattern.{Agree, Marks}
use Rattle.state_rows.specs.declared.bundles.Aspect.TheVariants.{Symbols, Next, Outputs}
use Rattle.state_rows.specs.declared.bundles.RowBundle.{RowBundle}
use Rattle.state_rows.specs.Conflict.{Contradicts}
use Rattle.state_rows.specs.Bundles.{AreFit, IsBundle, IsComparable, IsFit, MarksRows, NamesNoOther, cube_pattern, next_pattern, output_pattern}
use Rattle.state_rows.specs.Columns.{IsAtPlace}
use Rattle.state_rows.proofs.RowBundles.{marks_as, marks_fewer, marks_of, marks_without}
use Rattle.state_rows.proofs.RowPatterns.{agree_from_meets, meets_from_agree, not_both, one_from_agree, said_or_agree}

module _ (rows : List KissRow) (bundle : RowBundle) where
  -- the rows whose cubes agree with a cube meet it
  pub marks_meeting : (cube : Cube) (word : ℕ) → IsBundle rows bundle → All (IsFit cube.width) rows → Marks bundle.cubes (Agree (cube_pattern cube)) word
      → MarksRows rows bundle.numbers (λ row. Meets cube row.cube) word
  marks_meeting cube word right fit marks =
      marks_as rows bundle.numbers (λ row. Agree (cube_pattern cube) (cube_pattern row.cube)) (λ row. Meets cube row.cube) word
      (λ k row at.
      let widths : cube.width ≡ row.cube.width = sym (all_at (IsFit cube.width) rows (get_or bundle.numbers k 0) row fit at.1).cube_width in
      ((λ agree. meets_from_agree cube row.cube widths agree), (λ meets. agree_from_meets cube row.cube widths meets)))
      (marks_of rows bundle.numbers Symbols bundle.cubes (Agree (cube_pattern cube)) word right.cubes marks)

  -- where no row meets the row, none contradicts it
  pub marks_no_contradiction : (row : KissRow) → MarksRows rows bundle.numbers (λ other. Meets row.cube other.cube) 0
      → MarksRows rows bundle.numbers (λ other. Contradicts other row) 0
  marks_no_contradiction row =
      marks_fewer rows bundle.numbers (λ other. Meets row.cube other.cube) (λ other. Contradicts other row)
      (λ k other at contradicts. let shared = contradicts.symbol in (shared.0, shared.2, shared.1))

  -- the rows that meet the row, and do not agree in both the next state and the outputs
  pub marks_contradicting : (row : KissRow) (m a b : ℕ) → IsComparable rows row bundle → bit_and a b < 2 ^ 64
      → MarksRows rows bundle.numbers (λ other. Meets row.cube other.cube) m → Marks bundle.nexts (Agree (next_pattern row.to)) a
      → Marks bundle.outputs (Agree (output_pattern row)) b → MarksRows rows bundle.numbers (λ other. Contradicts other row) (bit_and m (bit_not w64 (bit_and a b)))
  marks_contradicting row m a b known fits met first second =
      let numbers = bundle.numbers in
      let right = known.right in
      let M : KissRow → Type 0 = λ other. Meets row.cube other.cube in
      let A : KissRow → Type 0 = λ other. Agree (next_pattern row.to) (next_pattern other.to) in
      let B : KissRow → Type 0 = λ other. Agree (output_pattern row) (output_pattern other) in
      marks_without rows numbers M A B (λ other. Contradicts other row) m a b right.few fits met
      (marks_of rows numbers Next bundle.nexts (Agree (next_pattern row.to)) a right.nexts first)
      (marks_of rows numbers Outputs bundle.outputs (Agree (output_pattern row)) b right.outputs second)
      (λ k other at contradicts.
      let shared = contradicts.symbol in
      let fit = all_at (IsFit row.cube.width) rows (get_or numbers k 0) other known.fit at.1 in (
        (shared.0, shared.2, shared.1),
        not_both row other known.row_fit.next_state fit.next_state (turned other row contradicts.said),
      ))
      (λ k other at meets apart.
      record {
        state = let found = known.state (get_or numbers k 0) (own k other at) in from_of (get_or numbers k 0) row.from found other at.1;
        symbol = (meets.0, meets.2, meets.1);
        said = elim (said_or_agree row other) [ inl said ↦ turned row other said | inr both ↦ absurd (apart both.0 both.1) ];
      })
    where
      turned : (r o : KissRow) → NameTwo r o ⊎ (GiveBoth r o ⊎ GiveBoth o r) → NameTwo o r ⊎ (GiveBoth o r ⊎ GiveBoth r o)
      turned r o (inl (t, u, goes, other_goes, apart)) = inl (u, t, other_goes, goes, λ same. apart (sym same))
      turned r o (inr (inl both)) = inr (inr both)
      turned r o (inr (inr back)) = inr (inl back)

      own : (k : ℕ) (other : KissRow) → IsAtPlace rows bundle.numbers k other → Contains bundle.numbers (get_or bundle.numbers k 0)
      own k other at = Contains-get_or bundle.numbers k 0 at.0

      from_of : (i s : ℕ) → (found : (r : KissRow) × (slice_get rows i ≡ Some r) × (r.from ≡ s)) (other : KissRow) → slice_get rows i ≡ Some other → other.from ≡ s
      from_of i s (r, at_r, from) other at_other =
          let both : Some r ≡ Some other = sym at_r ∙ at_other in
          let same : r ≡ other = cc in
          ap (λ (q : KissRow). q.from) (sym same) ∙ from

-- a row whose pattern agrees with that of a next state names no other
pub names_no_other : (rows : List KissRow) (bundle : RowBundle) (next word : ℕ) → next < 2 ^ 16 → IsBundle rows bundle → AreFit rows
    → Marks bundle.nexts (Agree (next_pattern (Some next))) word → (k : ℕ) (row : KissRow) → IsAtPlace rows bundle.numbers k row → bit_at word k ≡ 1 → NamesNoOther next row
names_no_other rows bundle next word small right (width, fit) marks k row at one v names =
    let agree = (marks.each k (next_pattern row.to) (right.nexts.each k row at.0 at.1)).0 one in
    sym (one_from_agree (Some next) row.to next v small (all_at (IsFit width) rows (get_or bundle.numbers k 0) row fit at.1).next_state refl names agree)
