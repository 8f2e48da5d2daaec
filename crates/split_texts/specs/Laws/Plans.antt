-- Laws of plans: each cause for which there is none has one answer, and so have all of them in their order.
use Rattle.std.proofs.Common.{ℕ, List, [], ◌∷◌, length, ap}
use Rattle.answers.specs.declared.numbers.Answer.TheVariants as answers
use Rattle.answers.specs.Laws.Causes.{HasOneAnswer, IsOf, first_has_one, one_of}
use Rattle.answers.specs.Refusal.{answer_of}
use Rattle.kiss_file.specs.declared.file.KissFile.{KissFile}
use Rattle.state_codes.specs.declared.split.Kind.{Kind}
use Rattle.state_codes.specs.declared.split.Part.{Part}
use Rattle.state_codes.specs.Fault.{AreApart}
use Rattle.split_texts.specs.Kinds.{row_of}
use Rattle.split_texts.specs.Splits.{AreParts, HasNoPlan, LacksSplit, Refuses}
use Rattle.split_texts.specs.Laws.Kinds.{each_is_sound}

pub refuses_one : (kind : Kind) (text : List ℕ) (W : KissFile) → HasOneAnswer (Refuses kind text W)
refuses_one kind text W = (each_is_sound kind).one_answer text W

pub lacks_split_is_of : (kind : Kind) (W : KissFile) → IsOf answers.NoSplit (LacksSplit kind W)
lacks_split_is_of kind W refusal (is, none) = ap answer_of is

pub no_plan_one : (kind : Kind) (text : List ℕ) (W : KissFile) → HasOneAnswer (HasNoPlan kind text W)
no_plan_one kind text W =
    first_has_one (Refuses kind text W ∷ LacksSplit kind W ∷ []) (refuses_one kind text W, (one_of answers.NoSplit (LacksSplit kind W) (lacks_split_is_of kind W), tt))

-- where the machine has no split of a kind, no parts of this kind leave two states together
pub lacking_is_apart : (kind : Kind) (text : List ℕ) (W : KissFile) (parts : List Part) → (row_of kind).none W → AreParts kind text W parts → AreApart (length W.states) parts
lacking_is_apart kind text W parts none made = (each_is_sound kind).apart text W parts none made.asked
