-- Laws of the causes: each has one answer, and so have all causes of a text in their order.
use Rattle.std.proofs.Common.{ℕ, Bool, List, [], ◌∷◌, length, ap, subst, arith}
use Rattle.answers.specs.declared.numbers.Answer.{Answer}
use Rattle.answers.specs.declared.numbers.Answer.TheVariants as answers
use Rattle.answers.specs.Cause.{CallsForNone, Cause}
use Rattle.answers.specs.Laws.Causes.{HasOneAnswer, IsOf, first_has_one, one_of}
use Rattle.answers.specs.Refusal.{answer_of}
use Rattle.state_reduce.specs.Laws.Works.{one_work}
use Rattle.state_reduce.specs.Work.{IsWorkOf}
use Rattle.kiss_file.specs.declared.file.KissFile.{KissFile}
use Rattle.split_texts.specs.Splits.{AreParts, LacksSplit, Refuses}
use Rattle.split_texts.specs.Laws.Plans.{lacks_split_is_of, refuses_one}
use Rattle.split_texts.specs.Laws.Kinds.{parts_once}
use Rattle.state_codes.specs.declared.Codes.{Codes}
use Rattle.state_codes.specs.declared.split.Kind.{Kind}
use Rattle.state_codes.specs.declared.split.Part.{Part}
use Rattle.state_codes.specs.Fault.{AreApart}
use Rattle.split_texts.specs.Causes.{HasLongCode, HasNoCode, HasNoText, IsNotWritten, LeavesTogether, OfParts}
use Rattle.split_texts.specs.SplitText.{AreCodes}
use Rattle.split_texts.specs.Laws.Codes.{length_of_codes, length_once}

-- ---- one answer
pub leaves_together_is_of : (W : KissFile) (parts : List Part) → IsOf answers.PartRefused (LeavesTogether W parts)
leaves_together_is_of W parts refusal (state, other, is, first) = ap answer_of is

pub has_long_code_is_of : (parts : List Part) → IsOf answers.CodeTooLong (HasLongCode parts)
has_long_code_is_of parts refusal (bits, is, size, long) = ap answer_of is

pub of_parts_is_of : (answer : Answer) (kind : Kind) (text : List ℕ) (W : KissFile) (cause : List Part → Cause) → ((parts : List Part) → IsOf answer (cause parts)) → IsOf answer (OfParts kind text W cause)
of_parts_is_of answer kind text W cause each refusal (parts, made, calls) = each parts refusal calls

pub no_code_one : (W : KissFile) (parts : List Part) → HasOneAnswer (HasNoCode W parts)
no_code_one W parts =
    first_has_one (LeavesTogether W parts ∷ HasLongCode parts ∷ []) (
      one_of answers.PartRefused (LeavesTogether W parts) (leaves_together_is_of W parts),
      (one_of answers.CodeTooLong (HasLongCode parts) (has_long_code_is_of parts), tt),
    )

pub no_text_one : (kind : Kind) (text : List ℕ) (W : KissFile) → HasOneAnswer (HasNoText kind text W)
no_text_one kind text W =
    first_has_one (Refuses kind text W ∷ OfParts kind text W (LeavesTogether W) ∷ LacksSplit kind W ∷ OfParts kind text W HasLongCode ∷ []) (
      refuses_one kind text W,
      (
        one_of answers.PartRefused (OfParts kind text W (LeavesTogether W)) (of_parts_is_of answers.PartRefused kind text W (LeavesTogether W) (leaves_together_is_of W)),
        (
          one_of answers.NoSplit (LacksSplit kind W) (lacks_split_is_of kind W),
          (one_of answers.CodeTooLong (OfParts kind text W HasLongCode) (of_parts_is_of answers.CodeTooLong kind text W HasLongCode has_long_code_is_of), tt),
        ),
      ),
    )

-- a command works on only one machine
pub not_written_one : (kind : Kind) (text : List ℕ) (reduce : Bool) (F : KissFile) → HasOneAnswer (IsNotWritten kind text reduce F)
not_written_one kind text reduce F one other (W, work, calls) (V, also_work, also_calls) =
    no_text_one kind text W one other calls (subst (λ (M : KissFile). HasNoText kind text M other) (one_work reduce F V W also_work work) also_calls)

-- ---- none
-- parts that distinguish all states do not leave states together
pub apart_leaves_none : (W : KissFile) (parts : List Part) → AreApart (length W.states) parts → CallsForNone (LeavesTogether W parts)
apart_leaves_none W parts apart refusal (state, other, is, pair) = apart pair.s pair.t pair.first.partner.above pair.first.partner.within pair.first.partner.together

-- parts that have codes do not have long ones
pub short_has_none : (n : ℕ) (parts : List Part) (codes : Codes) → AreCodes n parts codes → CallsForNone (HasLongCode parts)
short_has_none n parts codes are refusal (bits, is, size, long) = omega (arith, length_once parts codes.bits bits (length_of_codes n parts codes are.code) size, are.short, long)

-- a kind makes only one list of parts
pub of_parts_none : (kind : Kind) (text : List ℕ) (W : KissFile) (parts : List Part) (cause : List Part → Cause) → AreParts kind text W parts → CallsForNone (cause parts) → CallsForNone (OfParts kind text W cause)
of_parts_none kind text W parts cause made none refusal (others, also_made, calls) =
    none refusal (subst (λ (list : List Part). cause list refusal) (parts_once kind text W others parts also_made made) calls)

-- if the machine that a command works on calls for no refusal, neither does the command
pub on_work_none : (kind : Kind) (text : List ℕ) (reduce : Bool) (F W : KissFile) → IsWorkOf reduce F W → CallsForNone (HasNoText kind text W) → CallsForNone (IsNotWritten kind text reduce F)
on_work_none kind text reduce F W work none refusal (V, also_work, calls) =
    none refusal (subst (λ (M : KissFile). HasNoText kind text M refusal) (one_work reduce F V W also_work work) calls)
