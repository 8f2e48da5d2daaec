-- Which refusals are called for, and which are not.
use Rattle.std.proofs.Common.{◌*◌, ◌≤◌, ℕ, Bool, [], ◌∷◌, ap, arith, inl, inr, subst}
use Rattle.answers.specs.Cause.{CallsForNone}
use Rattle.answers.specs.Outcome.{IsStop}
use Rattle.answers.specs.Laws.Causes.{none_first}
use Rattle.answers.specs.declared.refusals.Refusal.{Refusal}
use Rattle.state_reduce.specs.declared.work.WorkMachine.{WorkMachine}
use Rattle.state_reduce.specs.Laws.Works.{one_work}
use Rattle.state_reduce.specs.Work.{IsWork, IsWorkOf}
use Rattle.kiss_file.specs.declared.file.KissFile.{KissFile}
use Rattle.machine_reports.specs.Causes.{KeepsApart}
use Rattle.machine_reports.proofs.Defining.{none_apart}
use Rattle.shift_real.specs.DefiniteMachine.{IsOrder}
use Rattle.shift_real.specs.Register.{HasShortOrder}
use Rattle.shift_real.specs.Laws.StartContent.{order_once}
use Rattle.shift_texts.specs.Causes.{HasLongRegister, HasNoRegister, HasNoShortOrder, NeverInReset, RefusesShift}

-- ---- of a machine
-- a short register has no more than 12 bits
none_long : (W : KissFile) (k : ℕ) → IsOrder W k → k * W.inputs ≤ 12 → CallsForNone (HasLongRegister W)
none_long W k order short refusal (j, is, other, long) =
    absurd (omega (arith, short, long, ap (λ (n : ℕ). n * W.inputs) (order_once W j k other order)))

pub short_is : (W : KissFile) (k : ℕ) → IsOrder W k → k * W.inputs ≤ 12 → CallsForNone (HasNoShortOrder W) × HasShortOrder W k
short_is W k order short = (
  none_first (KeepsApart W ∷ HasLongRegister W ∷ []) (none_apart W k order, (none_long W k order short, tt)),
  record { order = order; short = short },
)

-- ---- of the machine that a command works on
module _ (reduce : Bool) (F : KissFile) (work : WorkMachine) (is_work : IsWork reduce F work) where
  abbrev W : KissFile
  W = work.machine

  pub work_of : IsWorkOf reduce F W
  work_of = (is_work.class, is_work.machine)

  of_order : (refusal : Refusal) → HasNoShortOrder W refusal → HasNoRegister W refusal
  of_order refusal (inl apart) = inl apart
  of_order refusal (inr (none, inl long)) = inr (none, inl long)
  of_order refusal (inr (none, inr later)) = absurd later.1

  pub stop_of_order : (refusal : Refusal) → IsStop (HasNoShortOrder W) refusal → IsStop (RefusesShift reduce F) refusal
  stop_of_order refusal (inl wanting) = inl wanting
  stop_of_order refusal (inr calls) = inr (W, work_of, of_order refusal calls)

  module _ (none : CallsForNone (HasNoShortOrder W)) where
    apart : CallsForNone (KeepsApart W)
    apart refusal calls = none refusal (inl calls)

    long : CallsForNone (HasLongRegister W)
    long refusal calls = none refusal (inr (apart, inl calls))

    pub stop_of_register : (refusal : Refusal) → IsStop (NeverInReset W) refusal → IsStop (RefusesShift reduce F) refusal
    stop_of_register refusal (inl wanting) = inl wanting
    stop_of_register refusal (inr calls) = inr (W, work_of, inr (apart, inr (long, inl calls)))

    pub none_called : CallsForNone (NeverInReset W) → CallsForNone (RefusesShift reduce F)
    none_called reached refusal (V, other, calls) =
        none_first (KeepsApart W ∷ HasLongRegister W ∷ NeverInReset W ∷ []) (apart, (long, (reached, tt))) refusal
        (subst (λ (M : KissFile). HasNoRegister M refusal) (one_work reduce F V W other work_of) calls)
