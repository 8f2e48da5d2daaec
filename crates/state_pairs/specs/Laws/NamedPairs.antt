-- The pairs of next states of two states, as rows name them and as they are left open.
use Rattle.std.proofs.Common.{false, ◌≡◌, ℕ, ◌<◌, ◌^◌, ◌↔◌, ◌⊎◌, List, length, get_or, Some, inl, inr, sym, ◌∙◌, subst, arith, ap}
use Rattle.std.proofs.lemmas.Bool.{true≢false}
use Rattle.std.proofs.lemmas.List.Elements.{Contains-get_or}
use Rattle.cubes.specs.Symbol.{symbol_of}
use Rattle.cubes.specs.Cube.{HoldsNumber}
use Rattle.cubes.specs.Laws.Ends.{least_held}
use Rattle.cubes.specs.Laws.Numbers.{length-symbol_of}
use Rattle.kiss_file.specs.declared.file.KissFile.{KissFile}
use Rattle.kiss_file.specs.declared.file.KissRow.{KissRow}
use Rattle.kiss_file.specs.Machine.{Conflicting, Specified}
use Rattle.kiss_file.specs.Laws.Machine.{next_not_said, next_said}
use Rattle.state_pairs.specs.Pairs.{IsImage}
use Rattle.state_pairs.specs.AddedPairs.{AreNamed, AreNamedAtPlaces, AreNamedBy, IsNamedBeside, IsOpenImage, OfSomeRow, to_of}
use Rattle.state_pairs.specs.RowLabels.{AllSay, HaveOneLabel, IsOpenAt, IsOfState}
use Rattle.state_pairs.specs.AlignedRows.{AreAligned}
use Rattle.state_pairs.specs.Table.{IsTable}
use Rattle.state_rows.specs.Laws.OneCube.{held_by_like}
use Rattle.state_pairs.specs.Laws.Asking.{lawful_row, number_of_row}
use Rattle.state_pairs.specs.Laws.Labels.{label_or_open, value_of_some}
use Rattle.cubes.specs.Laws.SharedCubes.{value_below}
use Rattle.state_pairs.specs.Laws.Sought.{at_from_held, held_from_at, row_from_at, row_of}

-- ---- what rows name
module _ (F : KissFile) (table : IsTable F) where
  width_of : (s : ℕ) (row : KissRow) → IsOfState F s row → row.cube.width ≡ F.inputs
  width_of s row (among, from) = (lawful_row F table among.0 row (number_of_row F row among)).width

  -- rows of two states that name a pair do so at a symbol
  pub named_from_rows : (s t : ℕ) (row other : KissRow) → IsOfState F s row → IsOfState F t other → (u v : ℕ) → AreNamedBy row other u v → AreNamed F s t u v
  named_from_rows s t row other of_state of_other u v named =
      let x = named.shared in (
        x.0,
        subst (λ (w : ℕ). x.0 < 2 ^ w) (width_of s row of_state) x.1,
        (row, at_from_held F table s x.0 row of_state x.2, named.first),
        (other, at_from_held F table t x.0 other of_other x.3, named.second),
      )

  pub named_by_rows : (s t u v : ℕ) → OfSomeRow F s (IsNamedBeside F t) u v ↔ AreNamed F s t u v
  named_by_rows s t u v = (there, back) where
    there : OfSomeRow F s (IsNamedBeside F t) u v → AreNamed F s t u v
    there (row, of_state, (other, of_other, named)) = named_from_rows s t row other of_state of_other u v named

    back : AreNamed F s t u v → OfSomeRow F s (IsNamedBeside F t) u v
    back (x, within, (row, at, names), (other, also, tells)) = (
      row,
      row_from_at F table s x row at,
      (
        other,
        row_from_at F table t x other also,
        record {
          shared = (
            x,
            subst (λ (w : ℕ). x < 2 ^ w) (sym (width_of s row (row_from_at F table s x row at))) within,
            held_from_at F table s x row at,
            held_from_at F table t x other also,
          );
          first = names;
          second = tells;
        },
      ),
    )

  -- the same where the rows of both states are aligned
  pub named_by_places : HaveOneLabel to_of F → (s t : ℕ) (first second : List ℕ) → AreAligned F s t first second to_of false → AllSay to_of F.rows second
      → (u v : ℕ) → AreNamedAtPlaces F.rows first second u v ↔ AreNamed F s t u v
  named_by_places one s t first second aligned says u v = (there, back) where
    there : AreNamedAtPlaces F.rows first second u v → AreNamed F s t u v
    there (k, below, (row, other, at_row, at_other, named)) =
        let also : k < length second = omega (arith, below, aligned.count) in
        named_from_rows s t row other (row_of F s (get_or first k 0) row (aligned.own_first (get_or first k 0) (Contains-get_or first k 0 below)) at_row)
        (row_of F t (get_or second k 0) other (aligned.own_second (get_or second k 0) (Contains-get_or second k 0 also)) at_other) u v named

    back : AreNamed F s t u v → AreNamedAtPlaces F.rows first second u v
    back (x, within, (row, at, names), (other, also_at, tells)) =
        let like = aligned.each row (row_from_at F table s x row at) in
        let partner = like.0 in
        let shown = like.3 in
        let label = value_of_some (to_of shown.partner) (says shown.place 0 shown.partner shown.at_second.0 shown.at_second.1) in
        let held = held_by_like row partner x like.2 (held_from_at F table s x row at) in
        let equal : label.0 ≡ v = one t x label.0 v
        (partner, at_from_held F table t x partner like.1 held, sym shown.represents_second.label ∙ label.1) (other, also_at, tells) in
        let least = shown.shown.cube.value in
        let here : HoldsNumber shown.shown.cube least = least_held shown.shown.cube in (
          shown.place,
          shown.at_first.0,
          (
            shown.shown,
            shown.partner,
            shown.at_first.1,
            shown.at_second.1,
            record {
              shared = (least, value_below shown.shown.cube, here, held_by_like shown.shown shown.partner least shown.cubes here);
              first = shown.represents_first.label ∙ names;
              second = subst (λ (n : ℕ). shown.partner.to ≡ Some n) equal label.1;
            },
          ),
        )

-- rows of a state at one symbol name one state
pub one_next : (F : KissFile) → (Conflicting F → ⊥) → HaveOneLabel to_of F
one_next F no_conflict s x v w (row, at, names) (other, also, tells) =
    sym (next_said F s (symbol_of F.inputs x) no_conflict row v at names) ∙ next_said F s (symbol_of F.inputs x) no_conflict other w also tells

-- ---- what rows leave open
-- where nothing is open, no pair is left to open symbols
pub no_open_image : (F : KissFile) → Specified F → (s t : ℕ) → s < length F.states → t < length F.states → (u v : ℕ) → IsOpenImage F s t u v → ⊥
no_open_image F specified s t first second u v = none where
  never : (s x : ℕ) → s < length F.states → IsOpenAt to_of F s x → ⊥
  never s x within silent =
      let there = (specified s (symbol_of F.inputs x) within (length-symbol_of F.inputs x)).next in
      true≢false (sym there.2 ∙ silent there.0 there.1)

  none : IsOpenImage F s t u v → ⊥
  none (inl (row, of_state, (x, w, within, held, silent, names, is))) = never t x second silent
  none (inr (inl (row, of_state, (x, w, within, held, silent, names, is)))) = never s x first silent
  none (inr (inr (x, within, silent, is_u, is_v))) = never s x first silent.0

module _ (F : KissFile) (table : IsTable F) (no_conflict : Conflicting F → ⊥) (s t u v : ℕ) where
  -- what a symbol gives is named by rows of both, or left open by one
  pub named_or_open : IsImage F s t u v → AreNamed F s t u v ⊎ IsOpenImage F s t u v
  named_or_open (x, within, to_u, to_v) =
      elim (label_or_open F table to_of s x) [
        | inl (a, (row, at, names)) ↦
            let left : a ≡ u = sym (next_said F s (symbol_of F.inputs x) no_conflict row a at names) ∙ to_u in
            elim (label_or_open F table to_of t x) [
              | inl (b, (other, also, tells)) ↦
                  let right : b ≡ v = sym (next_said F t (symbol_of F.inputs x) no_conflict other b also tells) ∙ to_v in
                  inl (x, within, (row, at, names ∙ ap (λ (n : ℕ). Some n) left), (other, also, tells ∙ ap (λ (n : ℕ). Some n) right))
              | inr silent ↦
                  let right : t ≡ v = sym (next_not_said F t (symbol_of F.inputs x) silent) ∙ to_v in
                  let is : (u, v) ≡ (a, t) = sym (ap (λ (n : ℕ). (n, t)) left ∙ ap (λ (n : ℕ). (u, n)) right) in
                  inr (inl (row, row_from_at F table s x row at, (x, a, within, held_from_at F table s x row at, silent, names, is)))
            ]
        | inr quiet ↦
            let left : s ≡ u = sym (next_not_said F s (symbol_of F.inputs x) quiet) ∙ to_u in
            elim (label_or_open F table to_of t x) [
              | inl (b, (other, also, tells)) ↦
                  let right : b ≡ v = sym (next_said F t (symbol_of F.inputs x) no_conflict other b also tells) ∙ to_v in
                  let is : (u, v) ≡ (s, b) = sym (ap (λ (n : ℕ). (n, b)) left ∙ ap (λ (n : ℕ). (u, n)) right) in
                  inr (inr (inl (other, row_from_at F table t x other also, (x, b, within, held_from_at F table t x other also, quiet, tells, is))))
              | inr silent ↦
                  let right : t ≡ v = sym (next_not_said F t (symbol_of F.inputs x) silent) ∙ to_v in
                  inr (inr (inr (x, within, (quiet, silent), sym left, sym right)))
            ]
      ]

  pub image_from_named : AreNamed F s t u v → IsImage F s t u v
  image_from_named (x, within, (row, at, names), (other, also, tells)) = (
    x,
    within,
    next_said F s (symbol_of F.inputs x) no_conflict row u at names,
    next_said F t (symbol_of F.inputs x) no_conflict other v also tells,
  )

  pub image_from_open : IsOpenImage F s t u v → IsImage F s t u v
  image_from_open (inl (row, of_state, (x, w, within, held, silent, names, is))) = (
    x,
    within,
    next_said F s (symbol_of F.inputs x) no_conflict row w (at_from_held F table s x row of_state held) names ∙ sym (ap (λ (p : ℕ × ℕ). p.0) is),
    next_not_said F t (symbol_of F.inputs x) silent ∙ sym (ap (λ (p : ℕ × ℕ). p.1) is),
  )
  image_from_open (inr (inl (row, of_state, (x, w, within, held, silent, names, is)))) = (
    x,
    within,
    next_not_said F s (symbol_of F.inputs x) silent ∙ sym (ap (λ (p : ℕ × ℕ). p.0) is),
    next_said F t (symbol_of F.inputs x) no_conflict row w (at_from_held F table t x row of_state held) names ∙ sym (ap (λ (p : ℕ × ℕ). p.1) is),
  )
  image_from_open (inr (inr (x, within, (quiet, silent), is_u, is_v))) = (
    x,
    within,
    next_not_said F s (symbol_of F.inputs x) quiet ∙ sym is_u,
    next_not_said F t (symbol_of F.inputs x) silent ∙ sym is_v,
  )

  pub image_is : AreNamed F s t u v ⊎ IsOpenImage F s t u v ↔ IsImage F s t u v
  image_is = (there, named_or_open) where
    there : AreNamed F s t u v ⊎ IsOpenImage F s t u v → IsImage F s t u v
    there (inl named) = image_from_named named
    there (inr left) = image_from_open left

  -- where nothing is open, each is named by rows of both
  pub image_is_named : Specified F → s < length F.states → t < length F.states → AreNamed F s t u v ↔ IsImage F s t u v
  image_is_named specified first second = (image_from_named, back) where
    back : IsImage F s t u v → AreNamed F s t u v
    back image =
        elim (named_or_open image) [
          | inl named ↦ named
          | inr left ↦ absurd (no_open_image F specified s t first second u v left)
        ]
