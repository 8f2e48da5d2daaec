-- What terms have at a column. Private functions need it; no public contract cites it.
use Rattle.std.specs.Prelude.{ℕ, Bool}
use Rattle.cover_logic.specs.declared.index.Side.{Side}
use Rattle.cover_logic.specs.declared.index.Side.TheVariants.{Zero, One, Dash}
use Rattle.cover_terms.specs.declared.term.Term.{Term}
use Rattle.cover_terms.specs.Pair.{has_dash, has_one, has_zero}

-- whether the term has this at the column whose bit alone the number has
abbrev pub is_on_side : Side → ℕ → Term → Bool
is_on_side Zero = has_zero
is_on_side One = has_one
is_on_side Dash = has_dash
