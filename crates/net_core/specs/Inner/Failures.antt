-- What the failures of the parts of `check` say.
use Rattle.std.specs.Prelude.{ℕ, ⊤, List}
use Rattle.net_core.specs.declared.causes.NetFail.{NetFail}
use Rattle.net_core.specs.declared.causes.NetFail.TheVariants.{TwoDrivers, Undriven, Cycle, NoMemory}
use Rattle.net_core.specs.Causes.{IsFirstAgain, IsFirstOutside}

-- the name is the first driver that occurs twice, unless memory ran out
abbrev pub TellsAgain : List (List ℕ) → NetFail → Type 0
TellsAgain names (TwoDrivers name) = IsFirstAgain names name
TellsAgain names (Undriven _) = ⊥
TellsAgain names (Cycle _) = ⊥
TellsAgain names NoMemory = ⊤

-- the name is the first use that is not driven, unless memory ran out
abbrev pub TellsOutside : List (List ℕ) → List (List ℕ) → NetFail → Type 0
TellsOutside these names (TwoDrivers _) = ⊥
TellsOutside these names (Undriven name) = IsFirstOutside these names name
TellsOutside these names (Cycle _) = ⊥
TellsOutside these names NoMemory = ⊤
