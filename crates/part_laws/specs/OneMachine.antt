-- There is one machine of a part, and machines that are stepped together answer in one way.
use Rattle.std.specs.Prelude.{◌≡◌, ℕ, All, Bool, List, length}
use Rattle.dependence.specs.declared.sets.Reads.{Reads}
use Rattle.kiss_file.specs.declared.file.KissFile.{KissFile}
use Rattle.kiss_file.specs.Machine.{Specified}
use Rattle.net_core.specs.declared.SignalNames.{SignalNames}
use Rattle.state_codes.specs.declared.which.Which.{Which}
use Rattle.part_machines.specs.PartMachine.{IsPartOf}
use Rattle.state_codes.specs.declared.Codes.{Codes}
use Rattle.state_codes.specs.declared.split.Part.{Part}
use Rattle.state_codes.specs.Split.{IsPart}
use Rattle.state_reduce.specs.Work.{IsWorkOf}
use Rattle.part_laws.specs.Together.{AnswerTogether, MachineAt}

-- where nothing is open in the file F, there is one machine of a part of the machine W that a job works on
abbrev pub MachineIsOne : Type 0
MachineIsOne =
    (reduce : Bool) (F W : KissFile) (parts : List Part) (code : Codes) (sets : Reads) (names : SignalNames) (which : Which) (P Q : KissFile)
    → IsWorkOf reduce F W → All (IsPart (length W.states)) parts → Specified F
    → IsPartOf W parts code sets names which P → IsPartOf W parts code sets names which Q → P ≡ Q

-- the answers to a word are determined, and so are the last states
abbrev pub TogetherOnce : Type 0
TogetherOnce =
    (inputs : List (List ℕ)) (Z : KissFile) (places : List MachineAt) (word answers others : List (List Bool)) (lasts more : List MachineAt)
    → AnswerTogether inputs Z places word answers lasts → AnswerTogether inputs Z places word others more → (answers ≡ others) × (lasts ≡ more)
