-- The planes of a bundle of terms. Private functions need it; no public contract cites it.
use Rattle.std.specs.Prelude.{◌≡◌, ℕ, ◌<◌, ◌≤◌, List, All, Contains, MatchOption, Option, length, slice_index_or, if◌then◌else◌}
use denote.Struct.Props as logic
use Rattle.cover_logic.specs.declared.bundles.Entry.{Entry}
use Rattle.cover_logic.specs.declared.bundles.Literal.{Literal}
use Rattle.cover_logic.specs.declared.bundles.Plane.{Plane}
use Rattle.cover_terms.specs.declared.term.Term.{Term}
use Rattle.cover_logic.specs.Inner.Entries.{EntryFits, HasLiterals}
use Rattle.cover_terms.specs.Term.{LooksAt}
use Rattle.cover_terms.specs.Pair.{HasLiteral}

-- the row has the literal
abbrev pub IsLiteralOf : Term → Literal → Type 0
IsLiteralOf row l = HasLiteral row l.column (if l.one then 1 else 0)

-- the literal of the row at the column, or none where it has a dash there
abbrev pub IsLiteralAt : Term → ℕ → Option Literal → Type 0
IsLiteralAt row column literal = MatchOption literal (LooksAt row column → ⊥) (λ l. (l.column ≡ column) × IsLiteralOf row l)

-- the literals are those of the row
pub record AreLiteralsOf (row : Term) (literals : List Literal) : Type 0 where
  pub among : All (IsLiteralOf row) literals
  pub all : (column : ℕ) → LooksAt row column → (l : Literal) × Contains literals l × (l.column ≡ column)

-- at most 128 entries and planes; each plane has the places of the entries with that literal at its column
pub record ArePlanes (entries : List Entry) (planes : List Plane) : Type 0 where
  pub few : length entries ≤ 128
  pub width : length planes ≤ 128
  pub zeros : (column : ℕ) (d : Plane) → column < length planes → HasLiterals column 0 entries (slice_index_or planes column d).zeros
  pub ones : (column : ℕ) (d : Plane) → column < length planes → HasLiterals column 1 entries (slice_index_or planes column d).ones

-- the same, and there is a plane for each column at which an entry has a literal
pub record AreTold (entries : List Entry) (planes : List Plane) : Type 0 where
  pub by_column : ArePlanes entries planes
  pub fits : All (EntryFits (length planes)) entries

pub AreTold-prop : (entries : List Entry) (planes : List Plane) → IsProp (AreTold entries planes)
AreTold-prop entries planes = hlevel logic.props
