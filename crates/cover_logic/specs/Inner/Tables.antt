-- Tables of terms. Private functions need it; no public contract cites it.
use Rattle.std.specs.Prelude.{◌≡◌, ℕ, ◌<◌, ◌≤◌, ◌^◌, ◌++◌, ◌⊎◌, List, [], ◌∷◌, All, length, slice_index_or}
use Rattle.cover_logic.specs.declared.table.Table.{Table}
use Rattle.cover_terms.specs.declared.term.Term.{Term}
use Rattle.cover_terms.specs.Term.{FitsWidth, IsCovered}

-- of the values of `width` bits, those that a term holds have the mark 1, and the others have 0
pub record AreMarks (width : ℕ) (terms : List Term) (marks : List ℕ) : Type 0 where
  pub size : length marks ≡ 2 ^ width
  pub fits : All (FitsWidth width) terms
  pub one : (x : ℕ) → x < 2 ^ width → IsCovered terms x → slice_index_or marks x 0 ≡ 1
  pub zero : (x : ℕ) → x < 2 ^ width → (slice_index_or marks x 0 ≡ 0) ⊎ IsCovered terms x

-- the table is of at most 16 columns and has the marks of its terms
pub record IsMarkTable (table : Table) : Type 0 where
  pub few : table.width ≤ 16
  pub told : AreMarks table.width table.terms.items table.marks.items

-- the table is right, with those terms and this number of columns
pub record IsMarkTableOf (width : ℕ) (terms : List Term) (table : Table) : Type 0 where
  pub columns : table.width ≡ width
  pub items : table.terms.items ≡ terms
  pub right : IsMarkTable table

-- the table with one more term
abbrev pub IsOneMore : Table → Term → Table → Type 0
IsOneMore before term after = IsMarkTableOf before.width (before.terms.items ++ term ∷ []) after
