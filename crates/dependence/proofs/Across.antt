-- What rows of two lists show, list by list.
use Rattle.std.proofs.Common.{◌≡◌, ◌∙◌, ◌⊎◌, ℕ, ◌+◌, ◌<◌, Bool, Contains, Option, List, [], ◌∷◌, ◌++◌, length, get_or, take, drop, inl, inr, ap, refl, sym, subst, arith, add-one}
use Rattle.std.proofs.Math.Seq.{take-suc}
use Rattle.std.proofs.lemmas.List.{take-append-drop}
use Rattle.std.proofs.lemmas.List.Elements.{Contains-append_cases, Contains-append_left, Contains-append_right}
use Rattle.std.proofs.lemmas.Option.{same_Some}
use Rattle.kiss_file.specs.declared.file.KissRow.{KissRow}
use Rattle.dependence.specs.declared.effects.Effect.{Effect}
use Rattle.dependence.specs.declared.bit.Bit.{Bit}
use Rattle.dependence.specs.Inner.Effects.{Adds, AreGivenApart, DifferMore, Show, ShowAcross, ShowBeside}
use Rattle.dependence.specs.RowBits.{row_value}
use Rattle.dependence.proofs.Adding.{adds_as, adds_none, adds_then, turned}

contains_one : (one other : KissRow) → Contains (one ∷ []) other → one ≡ other
contains_one one other is =
    let at : is.0 ≡ 0 = omega (arith, is.1) in
    ap (λ k. get_or (one ∷ []) k other) (sym at) ∙ is.2

one_contains : (one : KissRow) → Contains (one ∷ []) one
one_contains one = (0, omega arith, refl)

-- the first rows and the one behind them
pub one_more : (rows : List KissRow) (k : ℕ) (row : KissRow) → k < length rows → row ≡ get_or rows k row → take k rows ++ row ∷ [] ≡ take (k + 1) rows
one_more rows k row within is = sym (ap (λ (n : ℕ). take n rows) (add-one k) ∙ take-suc rows k row within ∙ ap (λ (it : KissRow). take k rows ++ it ∷ []) (sym is))

module _ (inputs : ℕ) (words : List ℕ) where
  -- ---- one row beside others
  beside_left : (front back : List KissRow) (row : KissRow) (a : ℕ) (gate : Bit) → ShowBeside inputs words front row a gate → ShowBeside inputs words (front ++ back) row a gate
  beside_left front back row a gate shown = record { other = shown.other; among = Contains-append_left front back shown.other shown.among; show = shown.show }

  beside_right : (front back : List KissRow) (row : KissRow) (a : ℕ) (gate : Bit) → ShowBeside inputs words back row a gate → ShowBeside inputs words (front ++ back) row a gate
  beside_right front back row a gate shown = record { other = shown.other; among = Contains-append_right front back shown.other shown.among; show = shown.show }

  beside_cases : (front back : List KissRow) (row : KissRow) (a : ℕ) (gate : Bit) → ShowBeside inputs words (front ++ back) row a gate → ShowBeside inputs words front row a gate ⊎ ShowBeside inputs words back row a gate
  beside_cases front back row a gate shown = elim (Contains-append_cases front back shown.other shown.among) [
    | inl in_front ↦ inl (record { other = shown.other; among = in_front; show = shown.show })
    | inr in_back ↦ inr (record { other = shown.other; among = in_back; show = shown.show })
  ]

  -- ---- one of some rows beside others
  across_left : (front back others : List KissRow) (a : ℕ) (gate : Bit) → ShowAcross inputs words front others a gate → ShowAcross inputs words (front ++ back) others a gate
  across_left front back others a gate shown = record { row = shown.row; among = Contains-append_left front back shown.row shown.among; shown = shown.shown }

  across_right : (front back others : List KissRow) (a : ℕ) (gate : Bit) → ShowAcross inputs words back others a gate → ShowAcross inputs words (front ++ back) others a gate
  across_right front back others a gate shown = record { row = shown.row; among = Contains-append_right front back shown.row shown.among; shown = shown.shown }

  across_cases : (front back others : List KissRow) (a : ℕ) (gate : Bit) → ShowAcross inputs words (front ++ back) others a gate → ShowAcross inputs words front others a gate ⊎ ShowAcross inputs words back others a gate
  across_cases front back others a gate shown = elim (Contains-append_cases front back shown.row shown.among) [
    | inl in_front ↦ inl (record { row = shown.row; among = in_front; shown = shown.shown })
    | inr in_back ↦ inr (record { row = shown.row; among = in_back; shown = shown.shown })
  ]

  across_turned : (rows others : List KissRow) (a : ℕ) (gate : Bit) → ShowAcross inputs words rows others a gate → ShowAcross inputs words others rows a gate
  across_turned rows others a gate shown = record {
    row = shown.shown.other;
    among = shown.shown.among;
    shown = record { other = shown.row; among = shown.among; show = turned inputs words shown.shown.other shown.row a gate shown.shown.show };
  }

  -- ---- what is added in turn
  pub adds_beside_none : (effects : List Effect) (row : KissRow) → Adds effects effects (ShowBeside inputs words [] row)
  adds_beside_none effects row = adds_none effects (ShowBeside inputs words [] row) (λ a gate shown. omega (arith, shown.among.1))

  pub adds_beside : (old mid new : List Effect) (front : List KissRow) (other row : KissRow) → Adds old mid (ShowBeside inputs words front row) → Adds mid new (Show inputs words other row) → Adds old new (ShowBeside inputs words (front ++ other ∷ []) row)
  adds_beside old mid new front other row =
      adds_then old mid new (ShowBeside inputs words front row) (Show inputs words other row) (ShowBeside inputs words (front ++ other ∷ []) row)
      (λ a gate shown. beside_left front (other ∷ []) row a gate shown)
      (λ a gate show. beside_right front (other ∷ []) row a gate (record { other = other; among = one_contains other; show = show }))
      (λ a gate shown. elim (beside_cases front (other ∷ []) row a gate shown) [
        | inl before ↦ inl before
        | inr last ↦ inr (subst (λ (it : KissRow). Show inputs words it row a gate) (sym (contains_one other last.other last.among)) last.show)
      ])

  pub adds_across_none : (effects : List Effect) (others : List KissRow) → Adds effects effects (ShowAcross inputs words [] others)
  adds_across_none effects others = adds_none effects (ShowAcross inputs words [] others) (λ a gate shown. omega (arith, shown.among.1))

  pub adds_across_row : (old mid new : List Effect) (front others : List KissRow) (row : KissRow) → Adds old mid (ShowAcross inputs words front others) → Adds mid new (ShowBeside inputs words others row) → Adds old new (ShowAcross inputs words (front ++ row ∷ []) others)
  adds_across_row old mid new front others row =
      adds_then old mid new (ShowAcross inputs words front others) (ShowBeside inputs words others row) (ShowAcross inputs words (front ++ row ∷ []) others)
      (λ a gate shown. across_left front (row ∷ []) others a gate shown)
      (λ a gate shown. across_right front (row ∷ []) others a gate (record { row = row; among = one_contains row; shown = shown }))
      (λ a gate shown. elim (across_cases front (row ∷ []) others a gate shown) [
        | inl before ↦ inl before
        | inr last ↦ inr (subst (λ (it : KissRow). ShowBeside inputs words others it a gate) (sym (contains_one row last.row last.among)) last.shown)
      ])

  pub adds_halves : (old mid new : List Effect) (front back others : List KissRow) → Adds old mid (ShowAcross inputs words front others) → Adds mid new (ShowAcross inputs words back others) → Adds old new (ShowAcross inputs words (front ++ back) others)
  adds_halves old mid new front back others =
      adds_then old mid new (ShowAcross inputs words front others) (ShowAcross inputs words back others) (ShowAcross inputs words (front ++ back) others)
      (λ a gate shown. across_left front back others a gate shown)
      (λ a gate shown. across_right front back others a gate shown)
      (λ a gate shown. across_cases front back others a gate shown)

  pub adds_turned : (old new : List Effect) (rows others : List KissRow) → Adds old new (ShowAcross inputs words others rows) → Adds old new (ShowAcross inputs words rows others)
  adds_turned old new rows others =
      adds_as old new (ShowAcross inputs words others rows) (ShowAcross inputs words rows others) (λ a gate shown. across_turned others rows a gate shown) (λ a gate shown. across_turned rows others a gate shown)

  -- where no two differ at one place alone
  pub adds_apart : (effects : List Effect) (rows others : List KissRow) → DifferMore rows others → Adds effects effects (ShowAcross inputs words rows others)
  adds_apart effects rows others more =
      adds_none effects (ShowAcross inputs words rows others)
      (λ a gate shown. more shown.row shown.shown.other shown.shown.show.differ.place shown.among shown.shown.among shown.shown.show.differ.clash)

  -- within each half, and between the two
  within_halves : (front back : List KissRow) (a : ℕ) (gate : Bit) → ShowAcross inputs words (front ++ back) (front ++ back) a gate → (ShowAcross inputs words front front a gate ⊎ ShowAcross inputs words back back a gate) ⊎ ShowAcross inputs words front back a gate
  within_halves front back a gate shown = elim (across_cases front back (front ++ back) a gate shown) [
    | inl here ↦ elim (beside_cases front back here.row a gate here.shown) [
      | inl inside ↦ inl (inl (record { row = here.row; among = here.among; shown = inside }))
      | inr apart ↦ inr (record { row = here.row; among = here.among; shown = apart })
    ]
    | inr here ↦ elim (beside_cases front back here.row a gate here.shown) [
      | inl apart ↦ inr (across_turned back front a gate (record { row = here.row; among = here.among; shown = apart }))
      | inr inside ↦ inl (inr (record { row = here.row; among = here.among; shown = inside }))
    ]
  ]

  widened : (front back : List KissRow) (a : ℕ) (gate : Bit) → ShowAcross inputs words front back a gate → ShowAcross inputs words (front ++ back) (front ++ back) a gate
  widened front back a gate shown =
      across_left front back (front ++ back) a gate (record { row = shown.row; among = shown.among; shown = beside_right front back shown.row a gate shown.shown })

  in_front : (front back : List KissRow) (a : ℕ) (gate : Bit) → ShowAcross inputs words front front a gate → ShowAcross inputs words (front ++ back) (front ++ back) a gate
  in_front front back a gate shown =
      across_left front back (front ++ back) a gate (record { row = shown.row; among = shown.among; shown = beside_left front back shown.row a gate shown.shown })

  in_back : (front back : List KissRow) (a : ℕ) (gate : Bit) → ShowAcross inputs words back back a gate → ShowAcross inputs words (front ++ back) (front ++ back) a gate
  in_back front back a gate shown =
      across_right front back (front ++ back) a gate (record { row = shown.row; among = shown.among; shown = beside_right front back shown.row a gate shown.shown })

  pub adds_within : (old one two new : List Effect) (front back : List KissRow) → Adds old one (ShowAcross inputs words front front) → Adds one two (ShowAcross inputs words back back) → Adds two new (ShowAcross inputs words front back) → Adds old new (ShowAcross inputs words (front ++ back) (front ++ back))
  adds_within old one two new front back first second third =
      adds_then old two new (λ a gate. ShowAcross inputs words front front a gate ⊎ ShowAcross inputs words back back a gate) (ShowAcross inputs words front back) (ShowAcross inputs words (front ++ back) (front ++ back))
      (λ a gate shown. elim shown [ inl inside ↦ in_front front back a gate inside | inr inside ↦ in_back front back a gate inside ])
      (λ a gate shown. widened front back a gate shown)
      (λ a gate shown. within_halves front back a gate shown)
      (adds_then old one two (ShowAcross inputs words front front) (ShowAcross inputs words back back) (λ a gate. ShowAcross inputs words front front a gate ⊎ ShowAcross inputs words back back a gate)
      (λ a gate shown. inl shown) (λ a gate shown. inr shown) (λ a gate shown. shown) first second)
      third

  -- fewer than two rows show nothing
  pub adds_few : (effects : List Effect) (rows : List KissRow) → length rows < 2 → Adds effects effects (ShowAcross inputs words rows rows)
  adds_few effects rows few = adds_none effects (ShowAcross inputs words rows rows) (λ a gate shown.
      let first : shown.among.0 ≡ 0 = omega (arith, few, shown.among.1) in
      let second : shown.shown.among.0 ≡ 0 = omega (arith, few, shown.shown.among.1) in
      let same : shown.row ≡ shown.shown.other =
      sym (ap (λ k. get_or rows k shown.row) (sym first) ∙ shown.among.2) ∙ one_of rows shown.row shown.shown.other (omega (arith, first, shown.among.1)) ∙ ap (λ k. get_or rows k shown.shown.other) (sym second) ∙ shown.shown.among.2 in
      let itself : Show inputs words shown.row shown.row a gate = subst (λ (it : KissRow). Show inputs words it shown.row a gate) (sym same) shown.shown.show in
      not_apart (row_value words gate shown.row) itself.values) where
        not_apart : (value : Option Bool) → AreGivenApart value value → ⊥
        not_apart value (v, w, is_v, is_w, apart) = apart (same_Some v w (sym is_v ∙ is_w))

        one_of : (rows : List KissRow) (d e : KissRow) → 0 < length rows → get_or rows 0 d ≡ get_or rows 0 e
        one_of [] d e some = absurd (omega (arith, some))
        one_of (x ∷ xs) d e some = refl

  -- a list is its halves
  pub halves : (old new : List Effect) (k : ℕ) (rows others : List KissRow) → Adds old new (ShowAcross inputs words (take k rows ++ drop k rows) others) → Adds old new (ShowAcross inputs words rows others)
  halves old new k rows others = subst (λ (list : List KissRow). Adds old new (ShowAcross inputs words list others)) (take-append-drop k rows)

-- what each half adds, where the first may have added before the second
pub adds_halved : (words : List ℕ) (old mid new : List Effect) (k : ℕ) (rows others front back : List KissRow) → front ≡ take k rows → back ≡ drop k rows
    → Adds old mid (ShowAcross (length old) words front others) → Adds mid new (ShowAcross (length mid) words back others) → Adds old new (ShowAcross (length old) words rows others)
adds_halved words old mid new k rows others front back is_front is_back first second =
    let of_front : Adds old mid (ShowAcross (length old) words (take k rows) others) = subst (λ (list : List KissRow). Adds old mid (ShowAcross (length old) words list others)) is_front first in
    let of_size : Adds mid new (ShowAcross (length old) words back others) = subst (λ (n : ℕ). Adds mid new (ShowAcross n words back others)) first.size second in
    let of_back : Adds mid new (ShowAcross (length old) words (drop k rows) others) = subst (λ (list : List KissRow). Adds mid new (ShowAcross (length old) words list others)) is_back of_size in
    halves (length old) words old new k rows others (adds_halves (length old) words old mid new (take k rows) (drop k rows) others of_front of_back)

-- what each half adds within itself, and then the two beside one another
pub adds_in_halves : (words : List ℕ) (old one two new : List Effect) (k : ℕ) (rows front back : List KissRow) → front ≡ take k rows → back ≡ drop k rows
    → Adds old one (ShowAcross (length old) words front front) → Adds one two (ShowAcross (length one) words back back) → Adds two new (ShowAcross (length two) words front back) → Adds old new (ShowAcross (length old) words rows rows)
adds_in_halves words old one two new k rows front back is_front is_back first second third =
    let of_second : Adds one two (ShowAcross (length old) words back back) = subst (λ (n : ℕ). Adds one two (ShowAcross n words back back)) first.size second in
    let of_third : Adds two new (ShowAcross (length old) words front back) = subst (λ (n : ℕ). Adds two new (ShowAcross n words front back)) (second.size ∙ first.size) third in
    let whole : front ++ back ≡ rows = ap (λ (list : List KissRow). list ++ back) is_front ∙ ap (λ (list : List KissRow). take k rows ++ list) is_back ∙ take-append-drop k rows in
    subst (λ (list : List KissRow). Adds old new (ShowAcross (length old) words list list)) whole (adds_within (length old) words old one two new front back first of_second of_third)
