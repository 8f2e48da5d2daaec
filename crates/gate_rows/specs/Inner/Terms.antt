-- The terms of what is asked of a gate.
use Rattle.std.specs.Prelude.{ℕ, ◌↔◌, All, Bool, List}
use Rattle.cover_terms.specs.declared.term.Term.{Term}
use Rattle.cover_terms.specs.Term.{FitsWidth, IsCovered}
use Rattle.gate_rows.specs.declared.demands.Demand.{Demand}
use Rattle.cubes.specs.Symbol.{lowest_bits}
use Rattle.gate_rows.specs.Columns.{column_count}
use Rattle.gate_rows.specs.Demands.{IsAsked}

-- the terms hold exactly what is read where some demand asks for the bit
pub record HoldWhatIsRead (inputs places : List ℕ) (given : Bool) (demands : List Demand) (terms : List Term) : Type 0 where
  pub fits : All (FitsWidth (column_count inputs places)) terms
  pub held : (v : ℕ) → IsCovered terms v ↔ IsAsked inputs places given demands (lowest_bits (column_count inputs places) v)
