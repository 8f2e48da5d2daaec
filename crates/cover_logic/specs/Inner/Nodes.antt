-- The nodes of an index of terms. Private functions need it; no public contract cites it.
use Rattle.std.specs.Prelude.{◌≡◌, ℕ, ◌<◌, ◌≤◌, true, List, [], ◌∷◌, ◌++◌, All, Contains, length, slice_index_or, if◌then◌else◌}
use denote.Struct.Props as logic
use Rattle.cover_logic.specs.declared.index.Node.{Node}
use Rattle.cover_terms.specs.declared.term.Term.{Term}
use Rattle.cover_terms.specs.Term.{Holds}
use Rattle.cover_terms.specs.Pair.{Includes}

-- the terms of the list that the nodes have
abbrev pub listed : List Node → List Term
listed [] = []
listed (n ∷ ns) = if n.is_listed then n.term ∷ listed ns else listed ns

-- each node's term holds the terms of the list that come before it, from `from` on
pub record IsNested (nodes : List Node) : Type 0 where
  pub back : (i : ℕ) (d : Node) → i < length nodes → (slice_index_or nodes i d).from ≤ i
  pub includes : (i j : ℕ) (d : Node) → i < length nodes → (slice_index_or nodes i d).from ≤ j → j < i →
      (slice_index_or nodes j d).is_listed ≡ true → Includes (slice_index_or nodes i d).term (slice_index_or nodes j d).term

pub IsNested-prop : (nodes : List Node) → IsProp (IsNested nodes)
unfolding Holds
IsNested-prop nodes = hlevel logic.props

-- after the nodes that were there come nodes for the terms, and for no others
pub record IsAdded (before : List Node) (terms : List Term) (after : List Node) : Type 0 where
  pub added : List Node
  pub is : after ≡ before ++ added
  pub nested : IsNested after
  pub among : All (Contains terms) (listed added)
  pub all : All (Contains (listed added)) terms
