-- What a command refuses has one reason, so that the line of the reason is determined.
use Rattle.std.proofs.Common.{◌≡◌, ℕ, ◌*◌, inl, inr, Bool, List, [], ◌∷◌, Option, None, Some, sym, ap, ◌∙◌, subst}
use Rattle.std.specs.Prelude.{⊤}
use Rattle.std.specs.Option.{option_map}
use Rattle.std.proofs.lemmas.Option.{same_Some}
use Rattle.answers.specs.declared.refusals.Refusal.{Refusal}
use Rattle.answers.specs.Cause.{Cause, FirstOf}
use Rattle.blif_out.specs.Head.{kind_word}
use Rattle.comparisons.specs.CountLaws.{ReasonsAreOne, RegisterReasonsAreOne}
use Rattle.comparisons.specs.Lines.{reason_of, register_word, short_line}
use Rattle.hs_io.specs.Spelling.{line_text}
use Rattle.hs_texts.specs.Comparisons.{short_fields}
use Rattle.hs_texts.specs.declared.comparisons.Reason.{Reason}
use Rattle.hs_texts.specs.declared.comparisons.Reason.TheVariants.{Bits, Lacking, Unreached}
use Rattle.kiss_file.specs.declared.file.KissFile.{KissFile}
use Rattle.shift_real.specs.Laws.StartContent.{order_once}
use Rattle.shift_texts.specs.Causes.{HasLongRegister, HasNoRegister, NeverInReset, RefusesShift}
use Rattle.split_texts.specs.Causes.{HasLongCode, HasNoText, IsNotWritten, LeavesTogether, OfParts}
use Rattle.split_texts.specs.Laws.Codes.{length_once}
use Rattle.split_texts.specs.Laws.Kinds.{parts_once}
use Rattle.split_texts.specs.Splits.{LacksSplit, Refuses}
use Rattle.state_codes.specs.declared.split.Kind.{Kind}
use Rattle.state_codes.specs.declared.split.Kind.TheVariants.{Assign, Cascade, Code, Feedback, Least, Parallel, Serial}
use Rattle.state_codes.specs.declared.split.Part.{Part}
use Rattle.state_codes.specs.Code.{IsLength}
use Rattle.state_reduce.specs.Laws.Works.{one_work}

-- ---- causes
-- all refusals that a cause calls for have one reason, or none of them has a reason
abbrev HasOneReason : Cause → Type 0
HasOneReason cause = (one other : Refusal) → cause one → cause other → reason_of one ≡ reason_of other

-- the same for each of some causes
abbrev EachHasOneReason : List Cause → Type 0
EachHasOneReason [] = ⊤
EachHasOneReason (cause ∷ later) = HasOneReason cause × EachHasOneReason later

-- all refusals of a cause have this reason, or no reason
abbrev IsFor : Option Reason → Cause → Type 0
IsFor reason cause = (refusal : Refusal) → cause refusal → reason_of refusal ≡ reason

one_for : (reason : Option Reason) (cause : Cause) → IsFor reason cause → HasOneReason cause
one_for reason cause each one other calls also = each one calls ∙ sym (each other also)

-- of causes in the order of judgement, the first that calls for a refusal gives the reason
first_has_one : (causes : List Cause) → EachHasOneReason causes → HasOneReason (FirstOf causes)
first_has_one [] each one other calls also = absurd calls
first_has_one (cause ∷ later) each one other (inl calls) (inl also) = each.0 one other calls also
first_has_one (cause ∷ later) each one other (inl calls) (inr also) = absurd (also.0 one calls)
first_has_one (cause ∷ later) each one other (inr calls) (inl also) = absurd (calls.0 other also)
first_has_one (cause ∷ later) each one other (inr calls) (inr also) = first_has_one later each.1 one other calls.1 also.1

-- one reason has one line
line_once : (word line other : List ℕ) (one another : Refusal) → reason_of one ≡ reason_of another → short_line word one ≡ Some line → short_line word another ≡ Some other → line ≡ other
line_once word line other one another same is also =
    same_Some line other (sym is ∙ ap (λ (found : Option Reason). option_map (λ reason. line_text (short_fields word reason)) found) same ∙ also)

-- ---- kinds
given_for_none : (text : List ℕ) (W : KissFile) → IsFor None (Refuses Assign text W)
given_for_none text W refusal (part, first) = elim first.bad [ inl label ↦ ap reason_of label.1 | inr count ↦ ap reason_of count.1 ]

refuses_for_one : (kind : Kind) (text : List ℕ) (W : KissFile) → HasOneReason (Refuses kind text W)
refuses_for_one Code text W one other calls also = absurd calls
refuses_for_one Assign text W one other calls also = one_for None (Refuses Assign text W) (given_for_none text W) one other calls also
refuses_for_one Parallel text W one other calls also = absurd calls
refuses_for_one Serial text W one other calls also = absurd calls
refuses_for_one Cascade text W one other calls also = absurd calls
refuses_for_one Feedback text W one other calls also = absurd calls
refuses_for_one Least text W one other calls also = ap reason_of calls.0 ∙ sym (ap reason_of also.0)

together_for_none : (kind : Kind) (text : List ℕ) (W : KissFile) → IsFor None (OfParts kind text W (LeavesTogether W))
together_for_none kind text W refusal (parts, made, (state, other, is, first)) = ap reason_of is

lacking_for_one : (kind : Kind) (W : KissFile) → IsFor (Some Lacking) (LacksSplit kind W)
lacking_for_one kind W refusal (is, none) = ap reason_of is

-- a kind makes only one list of parts, and their codes have one length
long_for_one : (kind : Kind) (text : List ℕ) (W : KissFile) → HasOneReason (OfParts kind text W HasLongCode)
long_for_one kind text W one other (parts, made, (bits, is, size, long)) (others, also_made, (more, is_too, size_too, long_too)) =
    ap reason_of is
    ∙ ap (λ (n : ℕ). Some (Bits n))
    (length_once parts bits more size (subst (λ (list : List Part). IsLength list more) (parts_once kind text W others parts also_made made) size_too))
    ∙ sym (ap reason_of is_too)

no_text_for_one : (kind : Kind) (text : List ℕ) (W : KissFile) → HasOneReason (HasNoText kind text W)
no_text_for_one kind text W =
    first_has_one (Refuses kind text W ∷ OfParts kind text W (LeavesTogether W) ∷ LacksSplit kind W ∷ OfParts kind text W HasLongCode ∷ []) (
      refuses_for_one kind text W,
      (
        one_for None (OfParts kind text W (LeavesTogether W)) (together_for_none kind text W),
        (one_for (Some Lacking) (LacksSplit kind W) (lacking_for_one kind W), (long_for_one kind text W, tt)),
      ),
    )

-- a command works on only one machine
not_written_for_one : (kind : Kind) (text : List ℕ) (reduce : Bool) (F : KissFile) → HasOneReason (IsNotWritten kind text reduce F)
not_written_for_one kind text reduce F one other (W, work, calls) (V, also_work, also) =
    no_text_for_one kind text W one other calls (subst (λ (M : KissFile). HasNoText kind text M other) (one_work reduce F V W also_work work) also)

pub reasons_are_one : ReasonsAreOne
reasons_are_one kind reduce F line other (refusal, calls, is) (another, also, is_too) =
    line_once (kind_word kind) line other refusal another (not_written_for_one kind [] reduce F refusal another calls also) is is_too

-- ---- the register
-- a machine has only one order
long_register_for_one : (W : KissFile) → HasOneReason (HasLongRegister W)
long_register_for_one W one other (k, is, order, long) (j, is_too, also, long_too) =
    ap reason_of is ∙ ap (λ (n : ℕ). Some (Bits (n * W.inputs))) (order_once W k j order also) ∙ sym (ap reason_of is_too)

reset_for_one : (W : KissFile) → IsFor (Some Unreached) (NeverInReset W)
reset_for_one W refusal (k, reset, is, order, none, named) = ap reason_of is

of_definite_for_one : (W : KissFile) → HasOneReason (FirstOf (HasLongRegister W ∷ NeverInReset W ∷ []))
of_definite_for_one W =
    first_has_one (HasLongRegister W ∷ NeverInReset W ∷ []) (long_register_for_one W, (one_for (Some Unreached) (NeverInReset W) (reset_for_one W), tt))

no_register_for_one : (W : KissFile) → HasOneReason (HasNoRegister W)
no_register_for_one W one other (inl (s, t, name, second, is, apart, named, second_named)) (inl (u, v, more, last, is_too, also, more_named, last_named)) = ap reason_of is ∙ sym (ap reason_of is_too)
no_register_for_one W one other (inl calls) (inr also) = absurd (also.0 one calls)
no_register_for_one W one other (inr calls) (inl also) = absurd (calls.0 other also)
no_register_for_one W one other (inr calls) (inr also) = of_definite_for_one W one other calls.1 also.1

no_shift_for_one : (reduce : Bool) (F : KissFile) → HasOneReason (RefusesShift reduce F)
no_shift_for_one reduce F one other (W, work, calls) (V, also_work, also) =
    no_register_for_one W one other calls (subst (λ (M : KissFile). HasNoRegister M other) (one_work reduce F V W also_work work) also)

pub register_reasons_are_one : RegisterReasonsAreOne
register_reasons_are_one reduce F line other (refusal, calls, is) (another, also, is_too) =
    line_once register_word line other refusal another (no_shift_for_one reduce F refusal another calls also) is is_too
