-- The table of where symbols lead two states, and the states that a bit of their images tells apart.
use Rattle.std.proofs.Common.{◌≡◌, ◌==◌, ◌↔◌, ◌∙◌, ℕ, ◌+◌, ◌<◌, ◌≤◌, All, Contains, List, [], ◌∷◌, ◌++◌, length, get_or, take, inl, inr, refl, ap, sym, subst, arith}
use Rattle.std.proofs.lemmas.Bool.{cases_eq, eq-eqb, eqb-true}
use Rattle.std.proofs.lemmas.List.{take_more, take_all}
use Rattle.std.proofs.lemmas.List.Elements.{All-nil, All-push, All-contains, Contains-append_left, Contains-get_or, Contains-push, Contains-push_cases}
use Rattle.cubes.specs.Symbol.{bit, symbol_of}
use Rattle.cubes.specs.Laws.Numbers.{length-symbol_of}
use Rattle.kiss_file.specs.declared.file.KissFile.{KissFile}
use Rattle.kiss_file.specs.Machine.{next}
use Rattle.machine_table.specs.Pieces.{IsImage}
use Rattle.machine_table.specs.Pairs.{HaveOneBit}
use Rattle.machine_table.specs.NextStates.{NeverLeaves}
use Rattle.dependence.specs.SufficientBits.{next_value}
use Rattle.dependence.specs.Bit.{GiveTheSame}
use Rattle.dependence.specs.Laws.Agreeing.{same_each}
use Rattle.least_codes.specs.declared.two_states.TwoStates.{TwoStates}
use Rattle.least_codes.specs.declared.table.Images.{Images}
use Rattle.least_codes.specs.Inner.StatePairs.{AreToldApart, ArePairs, IsPair}
use Rattle.least_codes.specs.Inner.Table.{AreApartIn, HasRow, IsRow, IsSplitBy, IsImageTable, IsTableOf, KeepsBit}

-- numbers below 2 are equal where the tests for 1 are
pub same_from_tests : (x y : ℕ) → x < 2 → y < 2 → (x == 1) ≡ (y == 1) → x ≡ y
same_from_tests x y small_x small_y same =
    elim (cases_eq x 1) [
      | inl one ↦ one ∙ sym (eqb-true y 1 (sym same ∙ eq-eqb x 1 one))
      | inr other ↦ elim (cases_eq y 1) [
        | inl one ↦ absurd (other (eqb-true x 1 (same ∙ eq-eqb y 1 one)))
        | inr none ↦ omega (arith, small_x, small_y, other, none)
      ]
    ]

pub table_none : (F : KissFile) → IsTableOf F [] []
table_none F = record {
  rows = All-nil (IsRow F);
  each = λ pair is. absurd (omega (arith, is.1));
}

-- one row more
pub table_more : (F : KissFile) (pairs : List TwoStates) (table : List Images) (i : ℕ) (d : TwoStates) (row : Images) → i < length pairs → IsTableOf F (take i pairs) table → row.pair ≡ get_or pairs i d → IsRow F row
    → IsTableOf F (take (i + 1) pairs) (table ++ row ∷ [])
table_more F pairs table i d row within before of is = record {
  rows = All-push (IsRow F) table row before.rows is;
  each = λ pair listed. elim (Contains-push_cases (take i pairs) (get_or pairs i d) pair (subst (λ (list : List TwoStates). Contains list pair) (take_more pairs i d within) listed)) [
    | inl old ↦
        let has : HasRow table pair = before.each pair old in
        record { row = has.row; listed = Contains-append_left table (row ∷ []) has.row has.listed; of = has.of }
    | inr at ↦ record { row = row; listed = Contains-push table row; of = of ∙ at }
  ];
}

pub table_all : (F : KissFile) (pairs : List TwoStates) (table : List Images) (i : ℕ) → length pairs ≤ i → ArePairs pairs (length F.states) → IsTableOf F (take i pairs) table → IsImageTable F table
table_all F pairs table i all are before = record {
  rows = before.rows;
  each = λ s t below in_t. before.each (record { s = s; t = t }) (subst (λ (list : List TwoStates). Contains list (record { s = s; t = t })) (sym (take_all i pairs all)) (are.each s t below in_t));
}

-- images are among the states
pub row_of : (F : KissFile) (row : Images) → NeverLeaves F → IsPair (length F.states) row.pair → ((u v : ℕ) → Contains row.images.items (u, v) ↔ IsImage F row.pair.s row.pair.t u v) → IsRow F row
row_of F row stays pair images = record {
  inside = record { pair = pair; images = inside };
  images = images;
} where
  inside : All (λ image. (image.0 < length F.states) × (image.1 < length F.states)) row.images.items
  inside k d within =
      let is : IsImage F row.pair.s row.pair.t (get_or row.images.items k d).0 (get_or row.images.items k d).1 = (images (get_or row.images.items k d).0 (get_or row.images.items k d).1).0 (Contains-get_or row.images.items k d within) in (
        subst (λ (u : ℕ). u < length F.states) is.2 (stays row.pair.s (symbol_of F.inputs is.0) (omega (arith, pair.0, pair.1)) (length-symbol_of F.inputs is.0)),
        subst (λ (u : ℕ). u < length F.states) is.3 (stays row.pair.t (symbol_of F.inputs is.0) pair.1 (length-symbol_of F.inputs is.0)),
      )

module _ (words : List ℕ) (i : ℕ) where
  pub split_none : AreApartIn [] words i []
  split_none = record {
    split = All-nil (IsSplitBy [] words i);
    each = λ row is. absurd (omega (arith, is.1));
  }

  module _ (table : List Images) (apart : List TwoStates) (k : ℕ) (d : Images) (within : k < length table) (before : AreApartIn (take k table) words i apart) where
    more : (row : Images) → Contains (take k table) row → Contains (take (k + 1) table) row
    more row is = subst (λ (list : List Images). Contains list row) (sym (take_more table k d within)) (Contains-append_left (take k table) (get_or table k d ∷ []) row is)

    split_more : (pair : TwoStates) → IsSplitBy (take k table) words i pair → IsSplitBy (take (k + 1) table) words i pair
    split_more pair is = record { row = is.row; listed = more is.row is.listed; of = is.of; differ = is.differ }

    still : All (IsSplitBy (take (k + 1) table) words i) apart
    still j e inside = split_more (get_or apart j e) (before.split j e inside)

    -- a row whose images keep the bit
    pub split_kept : KeepsBit words i (get_or table k d) → AreApartIn (take (k + 1) table) words i apart
    split_kept keeps = record {
      split = still;
      each = λ row is. elim (Contains-push_cases (take k table) (get_or table k d) row (subst (λ (list : List Images). Contains list row) (take_more table k d within) is)) [
        | inl old ↦ before.each row old
        | inr at ↦ inr (subst (KeepsBit words i) at keeps)
      ];
    }

    -- and one whose images do not
    pub split_added : (KeepsBit words i (get_or table k d) → ⊥) → AreApartIn (take (k + 1) table) words i (apart ++ (get_or table k d).pair ∷ [])
    split_added differ = record {
      split = All-push (IsSplitBy (take (k + 1) table) words i) apart (get_or table k d).pair still (record {
        row = get_or table k d;
        listed = subst (λ (list : List Images). Contains list (get_or table k d)) (sym (take_more table k d within)) (Contains-push (take k table) (get_or table k d));
        of = refl;
        differ = differ;
      });
      each = λ row is. elim (Contains-push_cases (take k table) (get_or table k d) row (subst (λ (list : List Images). Contains list row) (take_more table k d within) is)) [
        | inl old ↦ elim (before.each row old) [
          | inl listed ↦ inl (Contains-append_left apart ((get_or table k d).pair ∷ []) row.pair listed)
          | inr keeps ↦ inr keeps
        ]
        | inr at ↦ inl (subst (λ (one : Images). Contains (apart ++ (get_or table k d).pair ∷ []) one.pair) at (Contains-push apart (get_or table k d).pair))
      ];
    }

-- the states that the table has apart are those whose next values differ
module _ (F : KissFile) (words : List ℕ) (i : ℕ) (table : List Images) (of : IsImageTable F table) where
  keeps_from_same : (row : Images) → Contains table row → GiveTheSame F (next_value F words i) row.pair.s row.pair.t → KeepsBit words i row
  keeps_from_same row listed same k d within =
      let is_row : IsRow F row = All-contains (IsRow F) table row of.rows listed in
      let image = (is_row.images (get_or row.images.items k d).0 (get_or row.images.items k d).1).0 (Contains-get_or row.images.items k d within) in
      ap (λ (u : ℕ). bit (get_or words u 0) i) (sym image.2) ∙ same (symbol_of F.inputs image.0) (length-symbol_of F.inputs image.0) ∙ ap (λ (u : ℕ). bit (get_or words u 0) i) image.3

  same_from_keeps : (row : Images) → Contains table row → KeepsBit words i row → GiveTheSame F (next_value F words i) row.pair.s row.pair.t
  same_from_keeps row listed keeps =
      let is_row : IsRow F row = All-contains (IsRow F) table row of.rows listed in
      same_each F (next_value F words i) row.pair.s row.pair.t (λ x below.
      let u : ℕ = next F row.pair.s (symbol_of F.inputs x) in
      let v : ℕ = next F row.pair.t (symbol_of F.inputs x) in
      All-contains (λ (image : ℕ × ℕ). HaveOneBit words i image.0 image.1) row.images.items (u, v) keeps ((is_row.images u v).1 (x, below, refl, refl)))

  pub apart_from_table : (apart : List TwoStates) → AreApartIn table words i apart → AreToldApart F (next_value F words i) apart
  apart_from_table apart are = record {
    lawful = λ k d within. let split : IsSplitBy table words i (get_or apart k d) = are.split k d within in subst (IsPair (length F.states)) split.of (All-contains (IsRow F) table split.row of.rows split.listed).inside.pair;
    differ = λ k d within same. let split : IsSplitBy table words i (get_or apart k d) = are.split k d within in split.differ (keeps_from_same split.row split.listed (subst (λ (pair : TwoStates). GiveTheSame F (next_value F words i) pair.s pair.t) (sym split.of) same));
    each = λ s t below in_t.
        let has : HasRow table (record { s = s; t = t }) = of.each s t below in_t in
        elim (are.each has.row has.listed) [
          | inl listed ↦ inl (subst (Contains apart) has.of listed)
          | inr keeps ↦ inr (subst (λ (pair : TwoStates). GiveTheSame F (next_value F words i) pair.s pair.t) has.of (same_from_keeps has.row has.listed keeps))
        ];
  }
