-- The entries of bundles. Private functions need it; no public contract cites it.
use Rattle.std.specs.Prelude.{◌≡◌, ℕ, Bool, List, [], ◌∷◌, ◌++◌, Option, All}
use Rattle.cover_logic.specs.declared.bundles.Bundle.{Bundle}
use Rattle.cover_logic.specs.declared.bundles.Bundles.{Bundles}
use Rattle.cover_logic.specs.declared.bundles.Entry.{Entry}
use Rattle.cover_terms.specs.declared.term.Term.{Term}
use Rattle.cover_logic.specs.Inner.Entries.{HoldsRivals, IsMet, IsNumbered, terms_in}
use Rattle.cover_logic.specs.Inner.Rows.{IsSole}
use Rattle.cover_terms.specs.Term.{FitsWidth}

abbrev pub entries_in : List Bundle → List Entry
entries_in [] = []
entries_in (b ∷ bs) = b.entries.items ++ entries_in bs

abbrev pub entries_of : Bundles → List Entry
entries_of all = entries_in all.bundles.items

abbrev pub terms_in_bundles : Bundles → List Term
terms_in_bundles all = terms_in (entries_of all)

-- a value of on in the row that no other row which is left holds, or none; `near` and `others` are on the way to it
pub record IsSoleLeft (number : ℕ) (row : Term) (rows on : Bundles) (left : List Bool) (sole : Option ℕ) : Type 0 where
  pub near : List Entry
  pub others : List Term
  pub met : IsMet row (entries_of rows) near
  pub rivals : HoldsRivals number left near others
  pub own : IsSole row (terms_in_bundles on) others sole

-- the bundles have the rows, all of this number of columns at most, with their numbers
pub record AreRowsIn (rows : List Term) (all : Bundles) (width : ℕ) : Type 0 where
  pub columns : all.width ≡ width
  pub fits : All (FitsWidth width) rows
  pub numbers : IsNumbered rows (entries_of all)
