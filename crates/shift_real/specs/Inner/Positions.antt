-- Networks described by positions (source: Hartmanis and Stearns, the realization of one machine by another).
use Rattle.std.specs.Prelude.{◌≡◌, Bool, List, [], ◌∷◌, length}
use Rattle.net_core.specs.declared.Network.{Network}
use Rattle.net_core.specs.Step.{Step}

-- At each symbol one step leads from the latch values of a position to those of the next position, and gives
-- these outputs.
pub record GoesAlong {P : Type 0} (N : Network) (IsPosition : P → Type 0) (values : P → List Bool) (next : P → List Bool → P) (outputs : P → List Bool → List Bool) : Type 0 where
  pub stays : (p : P) (x : List Bool) → IsPosition p → length x ≡ length N.inputs → IsPosition (next p x)
  pub steps : (p : P) (x : List Bool) → IsPosition p → length x ≡ length N.inputs → Step N (values p) x (outputs p x) (values (next p x))

-- the outputs at each symbol of a word, from a position on
abbrev pub outputs_along : {P : Type 0} → (P → List Bool → P) → (P → List Bool → List Bool) → P → List (List Bool) → List (List Bool)
outputs_along next outputs p [] = []
outputs_along next outputs p (x ∷ word) = outputs p x ∷ outputs_along next outputs (next p x) word
