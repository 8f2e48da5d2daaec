-- Lists of the bits of a word.
use Rattle.std.specs.Prelude.{◌↔◌, ℕ, ◌<◌, Contains, List}
use Rattle.std.specs.List.Sorted.{IsStrictlyIncreasing}
use Rattle.dependence.specs.SufficientBits.{InWord}

-- the list has the bits of a word below c, ascending
pub record AreListed (list : List ℕ) (set c : ℕ) : Type 0 where
  pub each : (d : ℕ) → Contains list d ↔ (d < c × InWord set d)
  pub ascend : IsStrictlyIncreasing list
