-- The terms that an index holds. Private functions need it; no public contract cites it.
use Rattle.std.specs.Prelude.{List}
use Rattle.cover_logic.specs.declared.index.Index.{Index}
use Rattle.cover_terms.specs.declared.term.Term.{Term}
use Rattle.cover_logic.specs.Inner.Nodes.{listed}

abbrev pub terms_of : Index → List Term
terms_of index = listed index.nodes.items
