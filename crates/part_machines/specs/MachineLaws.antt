-- What the rows of a part make: statements of laws.
use Rattle.std.specs.Prelude.{◌≡◌, ℕ, ◌+◌, ◌<◌, ◌≤◌, All, List, ◌++◌, Some, length}
use Rattle.dependence.specs.declared.sets.ReadSet.{ReadSet}
use Rattle.dependence.specs.declared.sets.Reads.{Reads}
use Rattle.kiss_file.specs.declared.file.KissFile.{KissFile}
use Rattle.kiss_file.specs.LawfulFile.{IsGivenName, IsLawful}
use Rattle.kiss_file.specs.Machine.{Conflicting}
use Rattle.kiss_file.specs.Names.{AreDistinct, IsPlainName}
use Rattle.machine_table.specs.NextStates.{NeverLeaves}
use Rattle.net_core.specs.declared.SignalNames.{SignalNames}
use Rattle.partition.specs.Partition.{IsStateCount}
use Rattle.realise.specs.CodeNetwork.{AreEnough}
use Rattle.state_codes.specs.declared.split.Part.{Part}
use Rattle.state_codes.specs.declared.Codes.{Codes}
use Rattle.state_codes.specs.Code.{IsCode}
use Rattle.state_codes.specs.Split.{IsPart}
use Rattle.state_codes.specs.declared.which.Which.{Which}
use Rattle.part_machines.specs.PartMachine.{HasBlocks, HasSignals, IsPartOf, input_names, output_names}
use Rattle.part_machines.specs.PartRows.{ArePartRows, output_count}
use Rattle.part_machines.specs.PartSet.{IsPartSet}
use Rattle.part_machines.specs.Which.{partition_of}

-- what is known of a split of the machine W, its codes and its read sets
pub record IsSplitOf (W : KissFile) (parts : List Part) (code : Codes) (sets : Reads) : Type 0 where
  pub lawful : All (IsPart (length W.states)) parts
  pub is_code : IsCode (length W.states) parts code
  pub enough : AreEnough W code.bits code.words sets
  pub stays : NeverLeaves W

-- W has inputs, and a number of states that a partition can have
abbrev pub HasSizes : KissFile → Type 0
HasSizes W = IsStateCount (length W.states) × (1 ≤ W.inputs)

-- P has the names, the blocks and the rows of the part, whose states are the blocks of p and which reads the set
pub record HasPieces (W : KissFile) (parts : List Part) (code : Codes) (sets : Reads) (names : SignalNames) (which : Which) (p : List ℕ) (set : ReadSet) (P : KissFile) : Type 0 where
  pub blocks_are : partition_of W parts which ≡ Some p
  pub reads : IsPartSet code sets which set
  pub some_output : 0 < output_count W code which
  pub signals : HasSignals W code set names which P
  pub blocks : HasBlocks W p which P
  pub rows : ArePartRows W code p set which P.rows

-- the names of the machine are those that a text may give
pub record HasLawfulNames (code : Codes) (set : ReadSet) (names : SignalNames) (which : Which) (P : KissFile) : Type 0 where
  pub states_distinct : AreDistinct P.states
  pub states_plain : All IsPlainName P.states
  pub inputs : All IsGivenName (input_names names set)
  pub outputs : All IsGivenName (output_names names code which)
  pub output_count : length (output_names names code which) ≡ P.outputs
  pub distinct : AreDistinct (input_names names set ++ output_names names code which)

-- P reads at most 32 inputs, gives at most 64 outputs, and has at most 65,536 rows
pub record HasRoom (W : KissFile) (code : Codes) (set : ReadSet) (which : Which) (P : KissFile) : Type 0 where
  pub few_read : length set.inputs + length set.latches ≤ 32
  pub few_outputs : output_count W code which ≤ 64
  pub few_rows : length P.rows ≤ 65536

-- a machine with the names, the blocks and the rows of a part is the machine of the part
abbrev pub RowsMakeThePart : Type 0
RowsMakeThePart =
    (W : KissFile) (parts : List Part) (code : Codes) (sets : Reads) (names : SignalNames) (which : Which) (p : List ℕ) (set : ReadSet) (P : KissFile)
    → IsSplitOf W parts code sets → HasSizes W → HasPieces W parts code sets names which p set P → IsPartOf W parts code sets names which P

-- no two rows of a part conflict
abbrev pub PartsNeverConflict : Type 0
PartsNeverConflict =
    (W : KissFile) (parts : List Part) (code : Codes) (sets : Reads) (which : Which) (p : List ℕ) (set : ReadSet) (P : KissFile)
    → IsSplitOf W parts code sets → HasSizes W → partition_of W parts which ≡ Some p → IsPartSet code sets which set
    → ArePartRows W code p set which P.rows → Conflicting P → ⊥

-- the machine of a part is lawful where its names are, and it has room
abbrev pub PartsAreLawful : Type 0
PartsAreLawful =
    (W : KissFile) (parts : List Part) (code : Codes) (sets : Reads) (names : SignalNames) (which : Which) (p : List ℕ) (set : ReadSet) (P : KissFile)
    → IsSplitOf W parts code sets → HasSizes W → W.reset < length W.states → HasPieces W parts code sets names which p set P
    → HasLawfulNames code set names which P → HasRoom W code set which P → IsLawful P
