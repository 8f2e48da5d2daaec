-- Why a partition has no quotient.
use Rattle.std.specs.Prelude.{◌≡◌, ◌<◌, ◌⊎◌, ℕ, List}
use Rattle.kiss_file.specs.declared.file.KissFile.{KissFile}
use Rattle.machine_table.specs.NextStates.{NeverLeaves}
use Rattle.machine_table.specs.Pairs.{AgreeAt, AtEachSymbol, GoInto, IsFirstWithout}
use Rattle.pair_operators.specs.Consistency.{Consistent}
use Rattle.pair_operators.specs.Pair.{Closed}
use Rattle.partition.specs.Partition.{Together}
use Rattle.state_reduce.specs.AlikeStates.{IsEquivalence}
use Rattle.state_reduce.specs.declared.demands.QuotientFail.{QuotientFail}
use Rattle.state_reduce.specs.declared.demands.QuotientFail.TheVariants.{NotClosed, NotConsistent, NoMemory}

-- s < t are the first two states of a block for which P fails at some symbol, by s and then by t, and x is the
-- least such symbol
pub record IsFirstFailing (P : KissFile → (s t x : ℕ) → Type 0) (F : KissFile) (p : List ℕ) (s t x : ℕ) : Type 0 where
  pub order : s < t
  pub together : Together p s t
  pub symbol : IsFirstWithout F.inputs (P F s t) x
  pub before : (u v : ℕ) → u < v → Together p u v → (u < s) ⊎ ((u ≡ s) × (v < t)) → AtEachSymbol F.inputs (P F u v)

-- the refusal has its cause: the partition is not closed; or it is closed but not consistent; or it is both,
-- and memory ran out
abbrev pub Caused : KissFile → List ℕ → QuotientFail → Type 0
Caused F p (NotClosed s t x) = IsFirstFailing (GoInto (Together p)) F p s t x
Caused F p (NotConsistent s t x) = Closed F p × IsFirstFailing AgreeAt F p s t x
Caused F p NoMemory = Closed F p × Consistent F p

-- the partition of alike states is refused only if memory runs out
abbrev pub AlikeHasQuotient : Type 0
AlikeHasQuotient = (F : KissFile) (p : List ℕ) (fail : QuotientFail) → NeverLeaves F → IsEquivalence F p → Caused F p fail → fail ≡ NoMemory
