-- A blank before what is not the first. Only private functions cite this.
use Rattle.std.specs.Prelude.{ℕ, Bool, true, false, List, [], ◌∷◌}

abbrev pub blank_if : Bool → List ℕ
blank_if true = 32 ∷ []
blank_if false = []
