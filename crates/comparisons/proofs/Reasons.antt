-- Each refusal that can come has a reason.
use Rattle.std.proofs.Common.{◌≡◌, ◌≢◌, ℕ, ◌*◌, inl, inr, IsSome, All, List, [], length, sym, subst, refl}
use Rattle.std.proofs.lemmas.List.Elements.{All-head}
use Rattle.answers.specs.declared.refusals.Refusal.{Refusal}
use Rattle.answers.specs.declared.refusals.Refusal.TheVariants.{CodeTooLong, NoSplit, NotDefinite, NotReached, StateCount}
use Rattle.blif_out.specs.Head.{kind_word}
use Rattle.comparisons.specs.CountLaws.{RefusalsHaveReasons, RegisterRefusalsHaveReasons}
use Rattle.comparisons.specs.Lines.{register_word, short_line}
use Rattle.kiss_file.specs.declared.file.KissFile.{KissFile}
use Rattle.partition.specs.Partition.{Together, zero_of}
use Rattle.partition.specs.Laws.Extremes.{zero_of_is_zero}
use Rattle.shift_texts.specs.Causes.{HasNoRegister}
use Rattle.split_texts.specs.Causes.{HasNoText}
use Rattle.split_texts.specs.GivenParts.{code_parts}
use Rattle.split_texts.specs.Laws.Causes.{apart_leaves_none}
use Rattle.split_texts.specs.Laws.Kinds.{apart_of_zero}
use Rattle.split_texts.specs.Splits.{AreParts, Refuses}
use Rattle.state_codes.specs.declared.split.Kind.{Kind}
use Rattle.state_codes.specs.declared.split.Kind.TheVariants.{Assign, Cascade, Code, Feedback, Least, Parallel, Serial}
use Rattle.state_codes.specs.declared.split.Part.{Part}
use Rattle.state_codes.specs.Kinds.{PartsMeetInZero}
use Rattle.state_codes.specs.Split.{lone_part}

-- ---- kinds
-- the lone part that distinguishes all states meets in zero
code_in_zero : (n : ℕ) → PartsMeetInZero (code_parts n)
code_in_zero n s t together = zero_of_is_zero n s t (All-head (λ (part : Part). Together part.partition s t) (lone_part (zero_of n)) [] together)

-- the parts of each kind without an operand meet in zero
parts_in_zero : (kind : Kind) (W : KissFile) (parts : List Part) → kind ≢ Assign → AreParts kind [] W parts → PartsMeetInZero parts
parts_in_zero Code W parts other made = subst PartsMeetInZero (sym made.asked) (code_in_zero (length W.states))
parts_in_zero Assign W parts other made = absurd (other refl)
parts_in_zero Parallel W parts other made = made.asked.in_zero
parts_in_zero Serial W parts other made = made.asked.in_zero
parts_in_zero Cascade W parts other made = made.asked.in_zero
parts_in_zero Feedback W parts other made = made.asked.in_zero
parts_in_zero Least W parts other made = made.asked.in_zero

-- a refusal with a reason has a line after each word
has_line : (word : List ℕ) (one other : Refusal) → one ≡ other → IsSome (short_line word other) → IsSome (short_line word one)
has_line word one other same is = subst (λ (refusal : Refusal). IsSome (short_line word refusal)) (sym same) is

-- what a kind refuses before a split is sought is a number of states
refused_early : (kind : Kind) (W : KissFile) (word : List ℕ) (refusal : Refusal) → kind ≢ Assign → Refuses kind [] W refusal → IsSome (short_line word refusal)
refused_early Code W word refusal other calls = absurd calls
refused_early Assign W word refusal other calls = absurd (other refl)
refused_early Parallel W word refusal other calls = absurd calls
refused_early Serial W word refusal other calls = absurd calls
refused_early Cascade W word refusal other calls = absurd calls
refused_early Feedback W word refusal other calls = absurd calls
refused_early Least W word refusal other calls = has_line word refusal (StateCount (length W.states)) calls.0 refl

of_machine : (kind : Kind) (W : KissFile) (word : List ℕ) (refusal : Refusal) → kind ≢ Assign → HasNoText kind [] W refusal → IsSome (short_line word refusal)
of_machine kind W word refusal other (inl early) = refused_early kind W word refusal other early
of_machine kind W word refusal other (inr (fits, inl (parts, made, together))) =
    absurd (apart_leaves_none W parts (apart_of_zero (length W.states) parts (parts_in_zero kind W parts other made)) refusal together)
of_machine kind W word refusal other (inr (fits, inr (apart, inl (is, none)))) = has_line word refusal (NoSplit kind) is refl
of_machine kind W word refusal other (inr (fits, inr (apart, inr (some, inl (parts, made, (bits, is, size, long)))))) = has_line word refusal (CodeTooLong bits) is refl
of_machine kind W word refusal other (inr (fits, inr (apart, inr (some, inr (short, none))))) = absurd none

pub refusals_have_reasons : RefusalsHaveReasons
refusals_have_reasons kind reduce F refusal other (W, work, calls) = of_machine kind W (kind_word kind) refusal other calls

-- ---- the register
of_register : (W : KissFile) (word : List ℕ) (refusal : Refusal) → HasNoRegister W refusal → IsSome (short_line word refusal)
of_register W word refusal (inl (s, t, state, other, is, apart, named, other_named)) = has_line word refusal (NotDefinite state other) is refl
of_register W word refusal (inr (definite, inl (k, is, order, long))) = has_line word refusal (CodeTooLong (k * W.inputs)) is refl
of_register W word refusal (inr (definite, inr (short, inl (k, reset, is, order, none, named)))) = has_line word refusal (NotReached reset) is refl
of_register W word refusal (inr (definite, inr (short, inr (reached, none)))) = absurd none

pub register_refusals_have_reasons : RegisterRefusalsHaveReasons
register_refusals_have_reasons reduce F refusal (W, work, calls) = of_register W register_word refusal calls
