use Rattle.std.proofs.Common.{ℕ, Vec, Global, ◌≡◌, List, Contains, get_or, sym, ◌∙◌, subst, arith, ap, ◌<◌, ◌+◌, ◌++◌, ◌∷◌, [], inl, inr}
use Rattle.std.proofs.lemmas.List.Elements.{Contains-get_or, Contains-push_cases}
use Rattle.state_rows.specs.Columns.{IsNamedByKept}
use Rattle.state_rows.proofs.KeptColumns.{kept_itself, kept_next, kept_still}
use Rattle.state_rows.proofs.columns.kept_among.Goals as goal
use Rattle.state_rows.proofs.columns.kept_among.Goals.{then-is_new_column+in_ok-push, else-is_new_column}

pub loop-place-preserved : goal.loop-place-preserved
loop-place-preserved c =
    let rows = c.args.rows.now in
    let places = c.args.places.now in
    let states = c.args.states.now in
    let order = c.args.order.now in
    let kept = c.loop-place.kept.items in
    let n = c.loop-place.place-index in
    let place = get_or order n 0 in
    let known = c.loop-place.invariant in
    elim c.if-is_new_column.branch [
      | then-is_new_column+in_ok-push w ↦
          let is : c.if-is_new_column.kept.items ≡ kept ++ place ∷ [] = ap (λ (v : Vec ℕ Global). v.items) w.kept-is ∙ w.in_ok-push.ensures.items in
          record {
            within = λ j among.
                elim (Contains-push_cases kept place j (subst (λ (all : List ℕ). Contains all j) is among)) [
                  | inl old ↦ known.within j old
                  | inr here ↦ subst (λ (k : ℕ). Contains order k) here (Contains-get_or order n 0 c.loop-place-test.true)
                ];
            each = subst (λ (all : List ℕ). (i d : ℕ) → i < n + 1 → IsNamedByKept rows places states all (get_or order i d)) (sym is)
                (kept_next rows places states order kept (kept ++ place ∷ []) n c.loop-place-test.true (λ k it. kept_still rows places states kept place k it)
                (kept_itself rows places states kept place) known.each);
          }
      | else-is_new_column w ↦
          let is : c.if-is_new_column.kept.items ≡ kept = ap (λ (v : Vec ℕ Global). v.items) w.kept-is in
          let now : IsNamedByKept rows places states kept place =
          subst (λ (all : List ℕ). IsNamedByKept rows places states all place) c.deref.ensures.value (c.is_new_column.ensures w.if-is_new_column.false) in
          record {
            within = λ j among. known.within j (subst (λ (all : List ℕ). Contains all j) is among);
            each = subst (λ (all : List ℕ). (i d : ℕ) → i < n + 1 → IsNamedByKept rows places states all (get_or order i d)) (sym is)
                (kept_next rows places states order kept kept n c.loop-place-test.true (λ k it. it) now known.each);
          }
    ]

pub returns-clause-each : goal.returns-clause-each
returns-clause-each c k among =
    subst (IsNamedByKept c.args.rows.now c.args.places.now c.args.states.now c.loop-place.kept.items) among.2
    (c.loop-place.invariant.each among.0 k (omega (arith, among.1, c.loop-place-test.false)))
