-- Laws of the causes: each calls for refusals of one answer, and so does the list of them.
use Rattle.std.proofs.Common.{Bool, [], ◌∷◌, ap, subst}
use Rattle.answers.specs.Laws.Causes.{HasOneAnswer, IsOf, first_has_one, one_of}
use Rattle.answers.specs.Refusal.{answer_of}
use Rattle.answers.specs.declared.numbers.Answer.TheVariants as answers
use Rattle.state_reduce.specs.Laws.Works.{one_work}
use Rattle.kiss_file.specs.declared.file.KissFile.{KissFile}
use Rattle.machine_reports.specs.Causes.{KeepsApart}
use Rattle.shift_texts.specs.Causes.{HasLongRegister, HasNoRegister, NeverInReset, RefusesShift}

pub keeps_apart_is_of : (W : KissFile) → IsOf answers.NotDefinite (KeepsApart W)
keeps_apart_is_of W refusal (s, t, name, other, is, apart, named, other_named) = ap answer_of is

pub has_long_register_is_of : (W : KissFile) → IsOf answers.CodeTooLong (HasLongRegister W)
has_long_register_is_of W refusal (k, is, order, long) = ap answer_of is

pub never_in_reset_is_of : (W : KissFile) → IsOf answers.NotReached (NeverInReset W)
never_in_reset_is_of W refusal (k, reset, is, order, none, named) = ap answer_of is

pub register_has_one_answer : (W : KissFile) → HasOneAnswer (HasNoRegister W)
register_has_one_answer W =
    first_has_one (KeepsApart W ∷ HasLongRegister W ∷ NeverInReset W ∷ []) (
      one_of answers.NotDefinite (KeepsApart W) (keeps_apart_is_of W),
      (one_of answers.CodeTooLong (HasLongRegister W) (has_long_register_is_of W), (one_of answers.NotReached (NeverInReset W) (never_in_reset_is_of W), tt)),
    )

-- a command works on only one machine
pub shift_has_one_answer : (reduce : Bool) (F : KissFile) → HasOneAnswer (RefusesShift reduce F)
shift_has_one_answer reduce F one other (W, work, calls) (V, other_work, other_calls) =
    register_has_one_answer W one other calls
    (subst (λ (M : KissFile). HasNoRegister M other) (one_work reduce F V W other_work work) other_calls)
