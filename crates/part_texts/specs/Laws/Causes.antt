-- Laws of the causes: each calls for refusals of one answer, and so does the list of them.
use Rattle.std.proofs.Common.{ℕ, Bool, List, [], ◌∷◌, ap}
use Rattle.answers.specs.Cause.{Cause}
use Rattle.answers.specs.Laws.Causes.{HasOneAnswer, IsOf, first_has_one, one_of}
use Rattle.answers.specs.Refusal.{answer_of}
use Rattle.answers.specs.declared.numbers.Answer.TheVariants as answers
use Rattle.dependence.specs.declared.sets.Reads.{Reads}
use Rattle.kiss_file.specs.declared.file.KissFile.{KissFile}
use Rattle.net_core.specs.declared.SignalNames.{SignalNames}
use Rattle.split_texts.specs.Causes.{IsNotWritten}
use Rattle.split_texts.specs.Laws.Causes.{not_written_one}
use Rattle.state_codes.specs.declared.Codes.{Codes}
use Rattle.state_codes.specs.declared.split.Kind.{Kind}
use Rattle.state_codes.specs.declared.split.Part.{Part}
use Rattle.state_codes.specs.declared.which.Which.{Which}
use Rattle.part_texts.specs.PartCauses.{HasLongName, HasManyInputs, HasNoPart, LacksBits, LacksPart, OfSplit}

-- a cause of a split that calls for one answer does so for each split of the job
of_split_is : (kind : Kind) (text : List ℕ) (reduce : Bool) (F : KissFile) (cause : List Part → Codes → Reads → SignalNames → Cause)
    → ((parts : List Part) (codes : Codes) (sets : Reads) (names : SignalNames) → IsOf answers.NoPart (cause parts codes sets names)) → HasOneAnswer (OfSplit kind text reduce F cause)
of_split_is kind text reduce F cause each =
    one_of answers.NoPart (OfSplit kind text reduce F cause) (λ refusal is. each is.parts is.codes is.sets is.names refusal is.calls)

pub lacks_part_is_of : (which : Which) (parts : List Part) → IsOf answers.NoPart (LacksPart which parts)
lacks_part_is_of which parts refusal (j, is, numbered, past) = ap answer_of is

pub lacks_bits_is_of : (which : Which) (codes : Codes) → IsOf answers.NoPart (LacksBits which codes)
lacks_bits_is_of which codes refusal (j, is, numbered, none) = ap answer_of is

pub many_inputs_is_of : (which : Which) (codes : Codes) (sets : Reads) → IsOf answers.NoPart (HasManyInputs which codes sets)
many_inputs_is_of which codes sets refusal (set, is, reads, many) = ap answer_of is

pub long_name_is_of : (which : Which) (codes : Codes) (sets : Reads) (names : SignalNames) → IsOf answers.NoPart (HasLongName which codes sets names)
long_name_is_of which codes sets names refusal (set, reads, (name, is, found)) = ap answer_of is

pub part_has_one_answer : (kind : Kind) (text : List ℕ) (which : Which) (reduce : Bool) (F : KissFile) → HasOneAnswer (HasNoPart kind text which reduce F)
part_has_one_answer kind text which reduce F =
    first_has_one
    (IsNotWritten kind text reduce F
    ∷ OfSplit kind text reduce F (λ parts codes sets names. LacksPart which parts)
    ∷ OfSplit kind text reduce F (λ parts codes sets names. LacksBits which codes)
    ∷ OfSplit kind text reduce F (λ parts codes sets names. HasManyInputs which codes sets)
    ∷ OfSplit kind text reduce F (λ parts codes sets names. HasLongName which codes sets names)
    ∷ []) (
      not_written_one kind text reduce F,
      (
        of_split_is kind text reduce F (λ parts codes sets names. LacksPart which parts) (λ parts codes sets names. lacks_part_is_of which parts),
        (
          of_split_is kind text reduce F (λ parts codes sets names. LacksBits which codes) (λ parts codes sets names. lacks_bits_is_of which codes),
          (
            of_split_is kind text reduce F (λ parts codes sets names. HasManyInputs which codes sets) (λ parts codes sets names. many_inputs_is_of which codes sets),
            (of_split_is kind text reduce F (λ parts codes sets names. HasLongName which codes sets names) (λ parts codes sets names. long_name_is_of which codes sets names), tt),
          ),
        ),
      ),
    )
