-- The refusals of a job for which no machine of a part is written.
use Rattle.std.specs.Prelude.{◌≡◌, ◌+◌, ◌<◌, ◌≤◌, ℕ, Bool, List, [], ◌∷◌, ◌++◌, Some, find, length, nat_lt}
use Rattle.answers.specs.Cause.{Cause, FirstOf}
use Rattle.answers.specs.declared.refusals.PartFlaw.TheVariants.{LongName, ManyInputs, Missing, NoBits}
use Rattle.answers.specs.declared.refusals.Refusal.{Refusal}
use Rattle.answers.specs.declared.refusals.Refusal.TheVariants.{NoPart}
use Rattle.dependence.specs.declared.sets.ReadSet.{ReadSet}
use Rattle.dependence.specs.declared.sets.Reads.{Reads}
use Rattle.kiss_file.specs.declared.file.KissFile.{KissFile}
use Rattle.net_core.specs.declared.SignalNames.{SignalNames}
use Rattle.part_machines.specs.PartMachine.{input_names, output_names}
use Rattle.part_machines.specs.PartSet.{IsPartSet}
use Rattle.part_machines.specs.Which.{own_bits}
use Rattle.split_texts.specs.Causes.{IsNotWritten}
use Rattle.state_codes.specs.declared.Codes.{Codes}
use Rattle.state_codes.specs.declared.split.Kind.{Kind}
use Rattle.state_codes.specs.declared.split.Part.{Part}
use Rattle.state_codes.specs.declared.which.Which.{Which}
use Rattle.state_codes.specs.declared.which.Which.TheVariants.{Part as Numbered}
use Rattle.part_texts.specs.SplitMachine.{IsSplitMachine}

-- the split that the job makes, with its codes, read sets and names, calls for a refusal
pub record OfSplit (kind : Kind) (text : List ℕ) (reduce : Bool) (F : KissFile) (cause : List Part → Codes → Reads → SignalNames → Cause) (refusal : Refusal) : Type 0 where
  pub W : KissFile
  pub parts : List Part
  pub codes : Codes
  pub sets : Reads
  pub names : SignalNames
  pub of_job : IsSplitMachine kind text reduce F W parts codes sets names
  pub calls : cause parts codes sets names refusal

-- there is no part of that number
abbrev pub LacksPart : Which → List Part → Cause
LacksPart which parts refusal = (j : ℕ) × (refusal ≡ NoPart (Missing j)) × (which ≡ Numbered j) × (length parts ≤ j)

-- the part has no bits
abbrev pub LacksBits : Which → Codes → Cause
LacksBits which codes refusal = (j : ℕ) × (refusal ≡ NoPart (NoBits j)) × (which ≡ Numbered j) × (own_bits codes which ≡ [])

-- the machine of the part would have more than 32 inputs
abbrev pub HasManyInputs : Which → Codes → Reads → Cause
HasManyInputs which codes sets refusal =
    (set : ReadSet) × (refusal ≡ NoPart (ManyInputs which (length set.inputs + length set.latches))) × IsPartSet codes sets which set × (32 < length set.inputs + length set.latches)

-- the name has more bytes than a text may give one
abbrev pub is_long : List ℕ → Bool
is_long name = nat_lt 64 (length name)

-- the first of the names that is too long
abbrev pub IsFirstLong : Which → List (List ℕ) → Cause
IsFirstLong which names refusal =
    (name : List ℕ) × (refusal ≡ NoPart (LongName which (length name))) × (find is_long names ≡ Some name)

-- an input of the machine of the part, or else an output, has such a name
abbrev pub HasLongName : Which → Codes → Reads → SignalNames → Cause
HasLongName which codes sets names refusal =
    (set : ReadSet) × IsPartSet codes sets which set × IsFirstLong which (input_names names set ++ output_names names codes which) refusal

-- why no machine of the part is written, in the order of judgement
abbrev pub HasNoPart : Kind → List ℕ → Which → Bool → KissFile → Cause
HasNoPart kind text which reduce F =
    FirstOf
    (IsNotWritten kind text reduce F
    ∷ OfSplit kind text reduce F (λ parts codes sets names. LacksPart which parts)
    ∷ OfSplit kind text reduce F (λ parts codes sets names. LacksBits which codes)
    ∷ OfSplit kind text reduce F (λ parts codes sets names. HasManyInputs which codes sets)
    ∷ OfSplit kind text reduce F (λ parts codes sets names. HasLongName which codes sets names)
    ∷ [])
