-- What is known of a part that has a machine, on the way to this machine.
use Rattle.std.specs.Prelude.{◌≡◌, ◌+◌, ◌<◌, ◌≤◌, ⊤, ℕ, List, [], ◌∷◌, ◌++◌, length, map}
use Rattle.std.specs.List.{range_with_len}
use Rattle.answers.specs.Cause.{Cause, FirstOf}
use Rattle.dependence.specs.declared.sets.ReadSet.{ReadSet}
use Rattle.dependence.specs.declared.sets.Reads.{Reads}
use Rattle.kiss2.specs.KissText.{kiss_text}
use Rattle.kiss_file.specs.declared.file.KissFile.{KissFile}
use Rattle.kiss_file.specs.LawfulFile.{IsLawful}
use Rattle.kiss_file.specs.Names.{name_of}
use Rattle.net_core.specs.declared.SignalNames.{SignalNames}
use Rattle.part_machines.specs.MachineLaws.{HasPieces}
use Rattle.part_machines.specs.PartMachine.{IsPartOf, input_names, least_with, output_names}
use Rattle.part_machines.specs.PartSet.{IsPartSet}
use Rattle.part_machines.specs.Which.{own_bits}
use Rattle.partition.specs.Partition.{blocks_of}
use Rattle.state_codes.specs.declared.Codes.{Codes}
use Rattle.state_codes.specs.declared.split.Part.{Part}
use Rattle.state_codes.specs.declared.which.Which.{Which}
use Rattle.state_codes.specs.declared.which.Which.TheVariants.{Part as Numbered, Outputs}
use Rattle.part_texts.specs.declared.part_names.PartNames.{PartNames}
use Rattle.part_texts.specs.declared.split_machine.SplitMachine.{SplitMachine}
use Rattle.part_texts.specs.PartCauses.{HasLongName, HasManyInputs, LacksBits, LacksPart}

-- ---- the part
-- the part is one of the split, and has bits
abbrev pub IsThere : List Part → Codes → Which → Type 0
IsThere parts codes (Numbered j) = (j < length parts) × (0 < length (own_bits codes (Numbered j)))
IsThere parts codes Outputs = ⊤

-- why the part is not there, in the order of judgement
abbrev pub IsMissing : Which → List Part → Codes → Cause
IsMissing which parts codes = FirstOf (LacksPart which parts ∷ LacksBits which codes ∷ [])

-- why the part has no inputs for a machine, in the order of judgement
abbrev pub HasNoSet : Which → List Part → Codes → Reads → Cause
HasNoSet which parts codes sets = FirstOf (LacksPart which parts ∷ LacksBits which codes ∷ HasManyInputs which codes sets ∷ [])

-- the part is there, and the set is what it reads and has at most 32 inputs
pub record IsSmallSet (parts : List Part) (codes : Codes) (sets : Reads) (which : Which) (set : ReadSet) : Type 0 where
  pub there : IsThere parts codes which
  pub reads : IsPartSet codes sets which set
  pub few : length set.inputs + length set.latches ≤ 32

-- ---- names
-- the names of the blocks, in the order of their labels: each has that of its least state
abbrev pub names_of_blocks : List (List ℕ) → List ℕ → List (List ℕ)
names_of_blocks names p = map (λ block. name_of names (least_with p block)) (range_with_len 0 (blocks_of p))

-- the names of the inputs of the part's machine, and then those of its outputs
abbrev pub all_names : SplitMachine → ReadSet → Which → List (List ℕ)
all_names made set which = input_names made.names set ++ output_names made.names made.codes which

-- the names of the inputs and of the outputs of the part's machine
pub record ArePartNames (made : SplitMachine) (set : ReadSet) (which : Which) (names : PartNames) : Type 0 where
  pub inputs : names.inputs ≡ input_names made.names set
  pub outputs : names.outputs ≡ output_names made.names made.codes which

-- ---- the machine
-- why the part of a split has no machine, in the order of judgement
abbrev pub HasNoMachine : Which → List Part → Codes → Reads → SignalNames → Cause
HasNoMachine which parts codes sets names =
    FirstOf (LacksPart which parts ∷ LacksBits which codes ∷ HasManyInputs which codes sets ∷ HasLongName which codes sets names ∷ [])

-- the machine is made of the pieces of the part
abbrev pub IsMadeOf : KissFile → SplitMachine → ReadSet → Which → KissFile → Type 0
IsMadeOf W made set which P = (p : List ℕ) × HasPieces W made.split.parts made.codes made.reads made.names which p set P

-- it is the machine of the part, and lawful unless it has more rows than a text may have
pub record IsMachineOf (W : KissFile) (made : SplitMachine) (which : Which) (P : KissFile) : Type 0 where
  pub part : IsPartOf W made.split.parts made.codes made.reads made.names which P
  pub lawful : length P.rows ≤ 65536 → IsLawful P

-- the text is that of such a machine
abbrev pub IsTextOf : KissFile → SplitMachine → Which → List ℕ → Type 0
IsTextOf W made which text = (P : KissFile) × IsMachineOf W made which P × (text ≡ kiss_text P)
