-- The refusals of a machine for which no shift register is written.
use Rattle.std.specs.Prelude.{◌≡◌, ◌*◌, ◌<◌, ℕ, Bool, List, [], ◌∷◌, Some, slice_get}
use Rattle.answers.specs.Cause.{Cause, FirstOf}
use Rattle.answers.specs.declared.refusals.Refusal.TheVariants.{CodeTooLong, NotReached}
use Rattle.state_reduce.specs.Work.{OnWork}
use Rattle.kiss_file.specs.declared.file.KissFile.{KissFile}
use Rattle.machine_reports.specs.Causes.{KeepsApart}
use Rattle.shift_real.specs.DefiniteMachine.{IsOrder}
use Rattle.shift_real.specs.Register.{IsNotReached}

-- a register of as many symbols as the order has more than 12 bits
abbrev pub HasLongRegister : KissFile → Cause
HasLongRegister W refusal = (k : ℕ) × (refusal ≡ CodeTooLong (k * W.inputs)) × IsOrder W k × (12 < k * W.inputs)

-- no word of as many symbols as the order ends in the reset state, which has this name
abbrev pub NeverInReset : KissFile → Cause
NeverInReset W refusal = (k : ℕ) × (reset : List ℕ) × (refusal ≡ NotReached reset) × IsOrder W k × IsNotReached W k × (slice_get W.states W.reset ≡ Some reset)

-- why a machine has no order whose register is short enough, in the order of judgement
abbrev pub HasNoShortOrder : KissFile → Cause
HasNoShortOrder W = FirstOf (KeepsApart W ∷ HasLongRegister W ∷ [])

-- why no register of a machine is written, in the order of judgement
abbrev pub HasNoRegister : KissFile → Cause
HasNoRegister W = FirstOf (KeepsApart W ∷ HasLongRegister W ∷ NeverInReset W ∷ [])

-- the same for the machine that a command works on
abbrev pub RefusesShift : Bool → KissFile → Cause
RefusesShift reduce F refusal = OnWork reduce F (λ W. HasNoRegister W refusal)
