-- Laws of the causes: each calls for refusals of one answer, and so does the list of causes of each command.
use Rattle.std.proofs.Common.{ℕ, Bool, [], ◌∷◌, ap}
use Rattle.answers.specs.Laws.Causes.{HasOneAnswer, IsOf, first_has_one, one_of}
use Rattle.answers.specs.Refusal.{answer_of}
use Rattle.answers.specs.declared.numbers.Answer.TheVariants as answers
use Rattle.io_pairs.specs.Inputs.{IsInMmPair}
use Rattle.io_pairs.specs.Outputs.{IsOutMmPair}
use Rattle.partition.specs.Sides.{RightBefore}
use Rattle.kiss_file.specs.declared.file.KissFile.{KissFile}
use Rattle.machine_reports.specs.Causes.{MoreThan, NotDefiniteRow, RefusesInputPairs, RefusesOutputPairs, TooManyInputsRow, TooManyOutputsRow}

pub more_than_is_of : {M : Type 0} (precedes : M → M → Type 0) (P : M → Type 0) (limit : ℕ) → IsOf answers.More (MoreThan precedes P limit)
more_than_is_of {M} precedes P limit refusal called = ap answer_of called.0

pub not_definite_is_of : (reduce : Bool) (F : KissFile) → IsOf answers.NotDefinite (NotDefiniteRow reduce F)
not_definite_is_of reduce F refusal (W, work, (s, t, name, other, is, apart, named, other_named)) = ap answer_of is

pub too_many_inputs_is_of : (F : KissFile) → IsOf answers.TooManyInputs (TooManyInputsRow F)
too_many_inputs_is_of F refusal called = ap answer_of called.0

pub too_many_outputs_is_of : (F : KissFile) → IsOf answers.TooManyOutputs (TooManyOutputsRow F)
too_many_outputs_is_of F refusal called = ap answer_of called.0

-- ---- the causes of a command
pub list_has_one_answer : {M : Type 0} (precedes : M → M → Type 0) (P : M → Type 0) (limit : ℕ) → HasOneAnswer (MoreThan precedes P limit)
list_has_one_answer {M} precedes P limit = one_of answers.More (MoreThan precedes P limit) (more_than_is_of precedes P limit)

pub definite_has_one_answer : (reduce : Bool) (F : KissFile) → HasOneAnswer (NotDefiniteRow reduce F)
definite_has_one_answer reduce F = one_of answers.NotDefinite (NotDefiniteRow reduce F) (not_definite_is_of reduce F)

pub input_pairs_have_one_answer : (F : KissFile) (limit : ℕ) → HasOneAnswer (RefusesInputPairs F limit)
input_pairs_have_one_answer F limit =
    first_has_one (TooManyInputsRow F ∷ MoreThan RightBefore (IsInMmPair F) limit ∷ [])
    (one_of answers.TooManyInputs (TooManyInputsRow F) (too_many_inputs_is_of F), (list_has_one_answer RightBefore (IsInMmPair F) limit, tt))

pub output_pairs_have_one_answer : (F : KissFile) (limit : ℕ) → HasOneAnswer (RefusesOutputPairs F limit)
output_pairs_have_one_answer F limit =
    first_has_one (TooManyInputsRow F ∷ TooManyOutputsRow F ∷ MoreThan RightBefore (IsOutMmPair F) limit ∷ []) (
      one_of answers.TooManyInputs (TooManyInputsRow F) (too_many_inputs_is_of F),
      (one_of answers.TooManyOutputs (TooManyOutputsRow F) (too_many_outputs_is_of F), (list_has_one_answer RightBefore (IsOutMmPair F) limit, tt)),
    )
