-- The labels of what a machine does at a symbol, and where those of two states differ.
use Rattle.std.proofs.Common.{◌≡◌, ◌≢◌, ℕ, zero, suc, ◌<◌, ◌^◌, ◌⊎◌, Bool, true, false, not, List, [], ◌∷◌, Option, Some, None, IsSome, IsNone, IfSome, IfNone, Contains, inl, inr, sym, ◌∙◌, subst, refl, arith, is_some, bit_and}
use Rattle.std.proofs.lemmas.Bool.{cases_Bool, cases_eq, true≢false}
use Rattle.std.proofs.lemmas.List.Elements.{Contains-append_cases, Contains-append_right}
use Rattle.cubes.specs.Cube.{HoldsNumber}
use Rattle.cubes.specs.Laws.Held.{held_from_mask, mask_from_held}
use Rattle.kiss_file.specs.declared.file.KissFile.{KissFile}
use Rattle.kiss_file.specs.declared.file.KissRow.{KissRow}
use Rattle.state_pairs.specs.RowLabels.{DifferAt, DifferOpen, NoneIsOpen, IsLabelAt, IsOpenAt}
use Rattle.state_rows.specs.Least.{IsMetBy}
use Rattle.state_pairs.specs.Pairs.{AtEachSymbol, IsFirstWithout}
use Rattle.state_pairs.specs.Table.{IsTable}
use Rattle.state_pairs.specs.Laws.Sought.{at_from_held, held_from_at}

-- some row of a list has a property, or none has
module _ (P : KissRow → Type 0) (decide : (row : KissRow) → P row ⊎ (P row → ⊥)) where
  first_is : (x y : KissRow) → Contains (x ∷ []) y → x ≡ y
  first_is x y (zero, lt, is) = is
  first_is x y (suc k, lt, is) = absurd (omega arith)

  pub some_or_none : (rows : List KissRow) → ((row : KissRow) × Contains rows row × P row) ⊎ ((row : KissRow) → Contains rows row → P row → ⊥)
  some_or_none [] = inr (λ row among has. absurd (omega (arith, among.1)))
  some_or_none (row ∷ rows) =
      elim (decide row) [
        | inl has ↦ inl (row, (0, omega arith, refl), has)
        | inr lacks ↦
            elim (some_or_none rows) [
              | inl found ↦ inl (found.0, Contains-append_right (row ∷ []) rows found.0 found.1, found.2)
              | inr none ↦
                  inr (λ other among has.
                  elim (Contains-append_cases (row ∷ []) rows other among) [
                    | inl here ↦ lacks (subst P (sym (first_is row other here)) has)
                    | inr there ↦ none other there has
                  ])
            ]
      ]

-- the value in an option that is some
pub value_of_some : (o : Option ℕ) → is_some o ≡ true → (v : ℕ) × (o ≡ Some v)
value_of_some None some = absurd (true≢false (sym some))
value_of_some (Some v) some = (v, refl)

module _ (F : KissFile) (table : IsTable F) (said : KissRow → Option ℕ) (s x : ℕ) where
  abbrev SaysThere : KissRow → Type 0
  SaysThere row = (row.from ≡ s) × HoldsNumber row.cube x × IsSome (said row)

  decide : (row : KissRow) → SaysThere row ⊎ (SaysThere row → ⊥)
  decide row =
      elim (cases_eq row.from s) [
        | inr other ↦ inr (λ there. other there.0)
        | inl from ↦
            elim (cases_eq (bit_and x row.cube.care) row.cube.value) [
              | inr out ↦ inr (λ there. out (mask_from_held row.cube x there.1))
              | inl mask ↦
                  elim (cases_Bool (is_some (said row))) [
                    | inl some ↦ inl (from, held_from_mask row.cube x mask, some)
                    | inr none ↦ inr (λ there. true≢false (sym there.2 ∙ none))
                  ]
            ]
      ]

  -- some row there says a label, or none does
  pub label_or_open : ((v : ℕ) × IsLabelAt said F s x v) ⊎ IsOpenAt said F s x
  label_or_open =
      elim (some_or_none SaysThere decide F.rows) [
        | inl found ↦
            let there = found.2 in
            let value = value_of_some (said found.0) there.2 in
            inl (value.0, (found.0, at_from_held F table s x found.0 (found.1, there.0) there.1, value.1))
        | inr none ↦
            inr (λ row at.
            elim (cases_Bool (is_some (said row))) [
              | inl some ↦ absurd (none row at.among (at.from, held_from_at F table s x row at, some))
              | inr silent ↦ silent
            ])
      ]

module _ (F : KissFile) (table : IsTable F) (said : KissRow → Option ℕ) (unsaid : ℕ → ℕ) (value : ℕ → ℕ → ℕ)
    (when_said : (s x v : ℕ) → IsLabelAt said F s x v → value s x ≡ v) (when_open : (s x : ℕ) → IsOpenAt said F s x → value s x ≡ unsaid s) (s t : ℕ) where
  -- two labels that differ are said or left to the states
  pub differ_at : (x : ℕ) → value s x ≢ value t x → DifferAt said unsaid F s t x
  differ_at x two =
      elim (label_or_open F table said s x) [
        | inl first ↦
            elim (label_or_open F table said t x) [
              | inl second ↦
                  inl (first.0, second.0, first.1, second.1, λ same. two (when_said s x first.0 first.1 ∙ same ∙ sym (when_said t x second.0 second.1)))
              | inr silent ↦
                  inr (inl (first.0, first.1, (λ same. two (when_said s x first.0 first.1 ∙ same ∙ sym (when_open t x silent))), silent))
            ]
        | inr quiet ↦
            elim (label_or_open F table said t x) [
              | inl second ↦
                  inr (inr (inl (second.0, second.1, (λ same. two (when_open s x quiet ∙ sym same ∙ sym (when_said t x second.0 second.1))), quiet)))
              | inr silent ↦
                  inr (inr (inr ((quiet, silent), λ same. two (when_open s x quiet ∙ same ∙ sym (when_open t x silent)))))
            ]
      ]

  pub differ : (x : ℕ) → DifferAt said unsaid F s t x → value s x ≢ value t x
  differ x (inl (v, w, first, second, two)) same = two (sym (when_said s x v first) ∙ same ∙ when_said t x w second)
  differ x (inr (inl (v, first, two, silent))) same = two (sym (when_said s x v first) ∙ same ∙ when_open t x silent)
  differ x (inr (inr (inl (w, second, two, quiet)))) same = two (sym (when_said t x w second) ∙ sym same ∙ when_open s x quiet)
  differ x (inr (inr (inr ((quiet, silent), two)))) same = two (sym (when_open s x quiet) ∙ same ∙ when_open t x silent)

  -- where a search found none, the labels are equal at each symbol
  pub all_from_none : (found : Option ℕ) (least : Bool) → IsNone found → ((y : ℕ) → DifferAt said unsaid F s t y → IsMetBy found least y) → (x : ℕ) → value s x ≡ value t x
  all_from_none None least none met x =
      elim (cases_eq (value s x) (value t x)) [
        | inl same ↦ same
        | inr two ↦ absurd (met x (differ_at x two))
      ]
  all_from_none (Some y) least none met x = absurd (true≢false none)

  -- and with equal labels at each symbol it finds none
  pub none_from_all : (found : Option ℕ) → IfSome found (DifferAt said unsaid F s t) → IfSome found (λ x. x < 2 ^ F.inputs)
      → AtEachSymbol F.inputs (λ x. value s x ≡ value t x) → IsNone found
  none_from_all None some within all = refl
  none_from_all (Some x) some within all = absurd (differ x some (all x within))

  -- the least that it finds is the first symbol at which they differ
  pub first_from_least : (found : Option ℕ) → IfSome found (DifferAt said unsaid F s t) → IfSome found (λ x. x < 2 ^ F.inputs)
      → ((y : ℕ) → DifferAt said unsaid F s t y → IsMetBy found true y) → IfSome found (IsFirstWithout F.inputs (λ x. value s x ≡ value t x))
  first_from_least None some within met = tt
  first_from_least (Some x) some within met = record {
    within = within;
    without = differ x some;
    before = earlier;
  }
    where
      earlier : (y : ℕ) → y < x → value s y ≡ value t y
      earlier y less =
          elim (cases_eq (value s y) (value t y)) [
            | inl same ↦ same
            | inr two ↦ let later = met y (differ_at y two) refl in absurd (omega (arith, later))
          ]

-- a first symbol without a property is one without another that holds where it does
pub first_without : (P R : ℕ → Type 0) (inputs x : ℕ) → ((y : ℕ) → P y → R y) → ((y : ℕ) → R y → P y) → IsFirstWithout inputs P x → IsFirstWithout inputs R x
first_without P R inputs x there back first = record {
  within = first.within;
  without = λ has. first.without (back x has);
  before = λ y less. there y (first.before y less);
}

-- of what a search may find
pub if_some_each : (P R : ℕ → Type 0) (found : Option ℕ) → ((x : ℕ) → P x → R x) → IfSome found P → IfSome found R
if_some_each P R None there some = tt
if_some_each P R (Some x) there some = there x some

pub if_none_given : (P : Type 0) (found : Option ℕ) → (IsNone found → P) → IfNone found P
if_none_given P None gives = gives refl
if_none_given P (Some x) gives = tt

-- a test whose contrary fails
pub true_from_not : (b : Bool) → not b ≡ false → b ≡ true
true_from_not true contrary = refl
true_from_not false contrary = sym contrary

-- what a label is at a symbol: the one that a row says, and else that of the state
pub record AreLabels (F : KissFile) (said : KissRow → Option ℕ) (unsaid : ℕ → ℕ) (value : ℕ → ℕ → ℕ) : Type 0 where
  pub when_said : (s x v : ℕ) → IsLabelAt said F s x v → value s x ≡ v
  pub when_open : (s x : ℕ) → IsOpenAt said F s x → value s x ≡ unsaid s

-- what a search for labels that differ tells of a relation that holds where they are equal
module _ (F : KissFile) (table : IsTable F) (said : KissRow → Option ℕ) (unsaid : ℕ → ℕ) (value : ℕ → ℕ → ℕ) (labels : AreLabels F said unsaid value) (s t : ℕ)
    (R : ℕ → Type 0) (alike : (x : ℕ) → value s x ≡ value t x → R x) (equal : (x : ℕ) → R x → value s x ≡ value t x)
    (found : Option ℕ) (within : IfSome found (λ x. x < 2 ^ F.inputs)) (some : IfSome found (DifferAt said unsaid F s t)) where
  pub each_from_none : (least : Bool) → ((y : ℕ) → DifferAt said unsaid F s t y → IsMetBy found least y) → IsNone found → AtEachSymbol F.inputs R
  each_from_none least met none x inside = alike x (all_from_none F table said unsaid value labels.when_said labels.when_open s t found least none met x)

  pub none_from_each : AtEachSymbol F.inputs R → IsNone found
  none_from_each each = none_from_all F table said unsaid value labels.when_said labels.when_open s t found some within (λ x inside. equal x (each x inside))

  pub first_not_so : ((y : ℕ) → DifferAt said unsaid F s t y → IsMetBy found true y) → IfSome found (IsFirstWithout F.inputs R)
  first_not_so met =
      if_some_each (IsFirstWithout F.inputs (λ x. value s x ≡ value t x)) (IsFirstWithout F.inputs R) found
      (λ x first. first_without (λ y. value s y ≡ value t y) R F.inputs x alike equal first)
      (first_from_least F table said unsaid value labels.when_said labels.when_open s t found some within met)

-- where some row says a label at each symbol, no labels differ by what no row says
pub never_open : (F : KissFile) (said : KissRow → Option ℕ) (unsaid : ℕ → ℕ) (s t : ℕ) → NoneIsOpen said F s t → (x : ℕ) → DifferOpen said unsaid F s t x → ⊥
never_open F said unsaid s t none x (inl (v, says, two, silent)) = (none x).1 silent
never_open F said unsaid s t none x (inr (inl (v, says, two, silent))) = (none x).0 silent
never_open F said unsaid s t none x (inr (inr (both, two))) = (none x).0 both.0
