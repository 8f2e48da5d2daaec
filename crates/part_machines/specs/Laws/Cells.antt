-- Laws of cells: the fields of the cells of a block share no symbol and hold every symbol, and each state is in a cell.
use Rattle.std.proofs.Common.{◌≡◌, ◌⊎◌, inl, inr, ℕ, zero, suc, ◌<◌, Bool, List, Option, get_or, length, slice_get, take, refl, sym, ◌∙◌, ap, subst, arith}
use Rattle.std.proofs.lemmas.Bool.{cases_eq, cases_lt}
use Rattle.std.proofs.lemmas.List.{length-map}
use Rattle.cubes.specs.Symbol.{bit}
use Rattle.partition.specs.Partition.{Together}
use Rattle.part_machines.specs.Cells.{FieldsAreApart, FieldsHoldAll, InOneCell, IsCellField, IsLeastOfCell, Shows, values_of}
use Rattle.part_machines.specs.Fields.{HoldsValues, IsFieldOf, LeavesAt}
use Rattle.part_machines.specs.Laws.Fields.{field_too, fields_apart, fields_hold, same_places, same_words}

-- ---- what is decided for each number is decided for some number below a bound
search_below : (P : ℕ → Type 0) → ((t : ℕ) → P t ⊎ (P t → ⊥)) → (n : ℕ) → ((t : ℕ) × (t < n) × P t) ⊎ ((t : ℕ) → t < n → P t → ⊥)
search_below P decide zero = inr (λ t below holds. omega arith)
search_below P decide (suc n) =
    elim (search_below P decide n) [
      | inl found ↦ inl (found.0, omega arith, found.2)
      | inr none ↦
          elim (decide n) [
            | inl holds ↦ inl (n, omega arith, holds)
            | inr fails ↦ inr (λ t below holds.
                elim (cases_lt t n) [
                  | inl before ↦ none t before holds
                  | inr at ↦ let here : t ≡ n = omega arith in fails (subst P here holds)
                ])
          ]
    ]

module _ (p words bits : List ℕ) where
  -- the cells of a block show words of one length
  pub length-shown : (s : ℕ) (v : List Bool) → Shows p words bits s v → length v ≡ length bits
  length-shown s v shows = ap length (sym shows.has) ∙ length-map bits (bit (get_or words shows.state 0))

  pub length-values_of : (s : ℕ) → length (values_of words bits s) ≡ length bits
  length-values_of s = length-map bits (bit (get_or words s 0))

  -- a state shows its own values
  pub shows_own : (s : ℕ) → s < length p → Shows p words bits s (values_of words bits s)
  shows_own s within = record { state = s; together = (within, within, refl); has = refl }

  -- states of one block show the same words
  pub shows_too : (s t : ℕ) → Together p s t → (v : List Bool) → Shows p words bits s v → Shows p words bits t v
  shows_too s t held v shows =
      record { state = shows.state; together = (held.1, shows.together.1, sym held.2 ∙ shows.together.2); has = shows.has }

  -- whether a state of the block of s leaves a word at a place
  record Leaves (s : ℕ) (v : List Bool) (k t : ℕ) : Type 0 where
    block : get_or p s 0 ≡ get_or p t 0
    before : take k (values_of words bits t) ≡ take k v
    differs : slice_get (values_of words bits t) k ≡ slice_get v k → ⊥

  leaves_or_not : (s : ℕ) (v : List Bool) (k t : ℕ) → Leaves s v k t ⊎ (Leaves s v k t → ⊥)
  leaves_or_not s v k t =
      elim (cases_eq (get_or p s 0) (get_or p t 0)) [
        | inr apart ↦ inr (λ leaves. apart leaves.block)
        | inl block ↦ elim (same_words (take k (values_of words bits t)) (take k v)) [
          | inr apart ↦ inr (λ leaves. apart leaves.before)
          | inl before ↦ elim (same_places (slice_get (values_of words bits t) k) (slice_get v k)) [
            | inl at ↦ inr (λ leaves. leaves.differs at)
            | inr differs ↦ inl (record { block = block; before = before; differs = differs })
          ]
        ]
      ]

  pub leaves_decided : (s : ℕ) → s < length p → (v : List Bool) (k : ℕ)
      → LeavesAt (Shows p words bits s) v k ⊎ (LeavesAt (Shows p words bits s) v k → ⊥)
  leaves_decided s within v k =
      elim (search_below (Leaves s v k) (leaves_or_not s v k) (length p)) [
        | inl found ↦ inl (record {
          other = values_of words bits found.0;
          shown = record { state = found.0; together = (within, found.1, found.2.block); has = refl };
          before = found.2.before;
          differs = found.2.differs;
        })
        | inr none ↦ inr (λ leaves.
            none leaves.shown.state leaves.shown.together.1
            (record {
              block = leaves.shown.together.2;
              before = ap (λ (w : List Bool). take k w) leaves.shown.has ∙ leaves.before;
              differs = λ at. leaves.differs (ap (λ (w : List Bool). slice_get w k) (sym leaves.shown.has) ∙ at);
            }))
      ]

  -- two states of a block whose fields hold the same values are in one cell
  pub cells_apart : (s t : ℕ) (values : List Bool) (one other : List (Option Bool)) → Together p s t → IsCellField p words bits s one → IsCellField p words bits t other
      → HoldsValues one values → HoldsValues other values → InOneCell p words bits s t
  cells_apart s t values one other held first second holds also =
      let back : Together p t s = (held.1, held.0, sym held.2) in
      let moved : IsFieldOf (Shows p words bits s) (values_of words bits t) other =
      field_too (Shows p words bits t) (Shows p words bits s) (shows_too t s back) (shows_too s t held) (values_of words bits t) other second in (
        held,
        fields_apart (Shows p words bits s) (length bits) (length-shown s) (values_of words bits s) (values_of words bits t) values one other
            (shows_own s held.0) (shows_too t s back (values_of words bits t) (shows_own t held.1)) first moved holds also,
      )

  -- all values are held by the field of some state of the block
  pub cells_hold : (s : ℕ) → s < length p → (values : List Bool) → length values ≡ length bits
      → (t : ℕ) × Together p s t × ((field : List (Option Bool)) → IsCellField p words bits t field → HoldsValues field values)
  cells_hold s within values long =
      let found = fields_hold (Shows p words bits s) (length bits) (length-shown s) (leaves_decided s within) values long (values_of words bits s) (shows_own s within) in
      let t : ℕ = found.1.state in
      let held : Together p s t = found.1.together in
      let back : Together p t s = (held.1, held.0, sym held.2) in (
        t,
        held,
        λ field is.
            found.2 field
            (subst (λ (v : List Bool). IsFieldOf (Shows p words bits s) v field) found.1.has
            (field_too (Shows p words bits t) (Shows p words bits s) (shows_too t s back) (shows_too s t held) (values_of words bits t) field is)),
      )

  -- ---- the least state of a cell
  in_cell_or_not : (s t : ℕ) → s < length p → t < length p → InOneCell p words bits t s ⊎ (InOneCell p words bits t s → ⊥)
  in_cell_or_not s t in_s in_t =
      elim (cases_eq (get_or p t 0) (get_or p s 0)) [
        | inr apart ↦ inr (λ in_one. apart in_one.0.2)
        | inl block ↦ elim (same_words (values_of words bits t) (values_of words bits s)) [
          | inr apart ↦ inr (λ in_one. apart in_one.1)
          | inl same ↦ inl ((in_t, in_s, block), same)
        ]
      ]

  either : (s : ℕ) → s < length p → (t : ℕ) → ((t < length p) × InOneCell p words bits t s) ⊎ ((t < length p) × InOneCell p words bits t s → ⊥)
  either s within t =
      elim (cases_lt t (length p)) [
        | inr past ↦ inr (λ both. omega (arith, both.0))
        | inl below ↦ elim (in_cell_or_not s t within below) [
          | inl in_one ↦ inl (below, in_one)
          | inr apart ↦ inr (λ both. apart both.1)
        ]
      ]

  cell_has_least_by : (fuel s : ℕ) → s < fuel → s < length p → (t : ℕ) × IsLeastOfCell p words bits t × InOneCell p words bits t s
  cell_has_least_by zero s low within = absurd (omega arith)
  cell_has_least_by (suc fuel) s low within =
      elim (search_below (λ t. (t < length p) × InOneCell p words bits t s) (either s within) s) [
        | inl found ↦
            let least = cell_has_least_by fuel found.0 (omega (arith, found.1)) found.2.0 in
            (least.0, least.1, ((least.2.0.0, within, least.2.0.2 ∙ found.2.1.0.2), least.2.1 ∙ found.2.1.1))
        | inr none ↦ (s, record { state = within; least = λ t before in_one. none t before (in_one.0.0, in_one) }, ((within, within, refl), refl))
      ]

  -- each state is in the cell of a least one
  pub cell_has_least : (s : ℕ) → s < length p → (t : ℕ) × IsLeastOfCell p words bits t × InOneCell p words bits t s
  cell_has_least s within = cell_has_least_by (suc s) s (omega arith) within

pub fields_are_apart : FieldsAreApart
fields_are_apart p words bits s t values one other held first second holds also = cells_apart p words bits s t values one other held first second holds also

pub fields_hold_all : FieldsHoldAll
fields_hold_all p words bits s values within long = cells_hold p words bits s within values long
