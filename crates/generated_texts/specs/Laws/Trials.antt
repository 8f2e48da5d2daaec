-- Laws of trials: the numbers have only one machine, it has a parallel decomposition, and its trial has only one
-- refusal.
use Rattle.std.specs.Prelude.{◌≡◌, ℕ, List, []}
use Rattle.std.proofs.Common.{ap, sym, ◌∙◌, subst}
use Rattle.answers.specs.declared.numbers.Answer.TheVariants as answers
use Rattle.answers.specs.declared.refusals.Refusal.{Refusal}
use Rattle.answers.specs.declared.refusals.Refusal.TheVariants.{CodeTooLong}
use Rattle.answers.specs.Laws.Causes.{HasOneAnswer, IsOf, one_of}
use Rattle.kiss_file.specs.declared.file.KissFile.{KissFile}
use Rattle.machine_gen.specs.WordMachine.{AreSizes}
use Rattle.machine_gen.specs.ParallelParts.{AreParallel, by_first, by_second}
use Rattle.machine_gen.specs.Words.{word}
use Rattle.machine_gen.proofs.OneMachine.{one_machine}
use Rattle.machine_gen.proofs.Sides.{sides}
use Rattle.parallel_split.specs.Kind.{HasNoneInParallel}
use Rattle.split_texts.specs.Splits.{AreParts}
use Rattle.split_texts.specs.Laws.Kinds.{parts_once}
use Rattle.split_texts.specs.Causes.{HasLongCode}
use Rattle.split_texts.specs.Laws.Causes.{has_long_code_is_of, of_parts_is_of}
use Rattle.split_texts.specs.Laws.Codes.{length_once}
use Rattle.state_codes.specs.declared.split.Kind.TheVariants.{Parallel}
use Rattle.state_codes.specs.declared.split.Part.{Part}
use Rattle.state_codes.specs.Code.{IsLength}
use Rattle.generated_texts.specs.SeedMachine.{IsGenerated}
use Rattle.generated_texts.specs.Trial.{LongCodeRow}

-- ---- the machine of the numbers
-- there is only one
pub one_generated : (seed a b k : ℕ) (F G : KissFile) → AreSizes a b k → IsGenerated seed a b k F → IsGenerated seed a b k G → F ≡ G
one_generated seed a b k F G sizes made other = one_machine (word seed) a b k F G sizes made other

-- it has a parallel decomposition
pub some_in_parallel : (seed a b k : ℕ) (F : KissFile) → AreSizes a b k → IsGenerated seed a b k F → HasNoneInParallel F → ⊥
some_in_parallel seed a b k F sizes made none =
    let both : AreParallel F (by_first a b) (by_second a b) = sides (word seed) a b k F sizes made in
    none (by_first a b) (by_second a b) (both.first.lawful, both.first.closed) (both.second.lawful, both.second.closed) (both.first.not_zero, both.first.not_one) (both.second.not_zero, both.second.not_one)
    (λ s t one other. both.in_zero s t one other)

-- ---- its codes
pub long_code_is_of : (seed a b k : ℕ) → IsOf answers.CodeTooLong (LongCodeRow seed a b k)
long_code_is_of seed a b k refusal (F, made, calls) = of_parts_is_of answers.CodeTooLong Parallel [] F HasLongCode has_long_code_is_of refusal calls

pub long_code_one : (seed a b k : ℕ) → HasOneAnswer (LongCodeRow seed a b k)
long_code_one seed a b k = one_of answers.CodeTooLong (LongCodeRow seed a b k) (long_code_is_of seed a b k)

-- there is only one machine, its split has only one list of parts, and their codes have only one length; so there
-- is only one refusal
pub long_code_once : (seed a b k : ℕ) (one other : Refusal) → AreSizes a b k → LongCodeRow seed a b k one → LongCodeRow seed a b k other → one ≡ other
long_code_once seed a b k one other sizes (F, made, (parts, of_kind, (bits, is, size, long))) (G, made_too, (others, of_kind_too, (more, is_too, size_too, long_too))) =
    let same : G ≡ F = one_generated seed a b k G F sizes made_too made in
    let once : others ≡ parts = parts_once Parallel [] F others parts (subst (λ (K : KissFile). AreParts Parallel [] K others) same of_kind_too) of_kind in
    is ∙ ap CodeTooLong (length_once parts bits more size (subst (λ (ps : List Part). IsLength ps more) once size_too)) ∙ sym is_too
