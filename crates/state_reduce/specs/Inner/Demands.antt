-- What is demanded of states that are together, and where it is not met. Private functions need these
-- definitions; no public contract cites them.
use Rattle.std.specs.Prelude.{◌<◌, ℕ, List}
use Rattle.kiss_file.specs.declared.file.KissFile.{KissFile}
use Rattle.machine_table.specs.Pairs.{AgreeAt, AtEachSymbol, GoInto, IsFirstWithout}
use Rattle.partition.specs.Partition.{Together}
use Rattle.state_reduce.specs.Cause.{IsFirstFailing}
use Rattle.state_reduce.specs.declared.demands.Demand.{Demand}
use Rattle.state_reduce.specs.declared.demands.Demand.TheVariants.{NextStates, Outputs}

-- the states meet the demand at the symbol with the number x
abbrev pub IsMet : Demand → KissFile → List ℕ → (s t x : ℕ) → Type 0
IsMet NextStates F p s t x = GoInto (Together p) F s t x
IsMet Outputs F p s t x = AgreeAt F s t x

-- each two states that are together meet it at each symbol
abbrev pub IsMetByAll : Demand → KissFile → List ℕ → Type 0
IsMetByAll demand F p = (s t : ℕ) → s < t → Together p s t → AtEachSymbol F.inputs (IsMet demand F p s t)

-- s meets it with each later state below `end` that is together with it
abbrev pub IsMetBehind : Demand → KissFile → List ℕ → (s end : ℕ) → Type 0
IsMetBehind demand F p s end = (t : ℕ) → s < t → t < end → Together p s t → AtEachSymbol F.inputs (IsMet demand F p s t)

-- t is the first state after s that is together with it and does not meet the demand with it, and x is the
-- first such symbol
pub record IsFirstBehind (demand : Demand) (F : KissFile) (p : List ℕ) (s t x : ℕ) : Type 0 where
  pub order : s < t
  pub together : Together p s t
  pub symbol : IsFirstWithout F.inputs (IsMet demand F p s t) x
  pub before : IsMetBehind demand F p s t

-- s < t are the first two states that do not meet the demand, and x is the first such symbol
abbrev pub IsFirstUnmet : Demand → KissFile → List ℕ → (s t x : ℕ) → Type 0
IsFirstUnmet NextStates F p s t x = IsFirstFailing (GoInto (Together p)) F p s t x
IsFirstUnmet Outputs F p s t x = IsFirstFailing AgreeAt F p s t x
