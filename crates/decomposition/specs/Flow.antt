-- How information flows between the parts of a split (source: Hartmanis and Stearns, the flow of information in
-- decompositions).
use Rattle.std.specs.Prelude.{◌≡◌, ℕ, ◌<◌, All, Bool, Contains, List, Some, length, slice_get}
use Rattle.dependence.specs.Candidates.{IsCandidate}
use Rattle.dependence.specs.SufficientBits.{Permits}
use Rattle.kiss_file.specs.declared.file.KissFile.{KissFile}
use Rattle.kiss_file.specs.Machine.{next}
use Rattle.machine_table.specs.NextStates.{NeverLeaves}
use Rattle.partition.specs.Partition.{Together}
use Rattle.state_codes.specs.declared.split.Part.{Part}
use Rattle.state_codes.specs.declared.Codes.{Codes}
use Rattle.state_codes.specs.Code.{IsCode}
use Rattle.state_codes.specs.Split.{IsPart}

-- the two states are in one block of each carrier that the part reads
abbrev pub TogetherInReads : List Part → Part → ℕ → ℕ → Type 0
TogetherInReads parts part s t = (l : ℕ) (other : Part) → Contains part.reads l → slice_get parts l ≡ Some other → Together other.carrier s t

-- for each symbol, the next block of each part follows from its own block and the blocks of the carriers that it
-- reads
abbrev pub Flows : KissFile → List Part → Type 0
Flows W parts =
    (j : ℕ) (part : Part) (s t : ℕ) (x : List Bool) → slice_get parts j ≡ Some part → s < length W.states → t < length W.states → length x ≡ W.inputs
    → Together part.partition s t → TogetherInReads parts part s t → Together part.partition (next W s x) (next W t x)

-- the candidates of each latch permit its bit
abbrev pub CandidatesPermit : KissFile → List Part → Codes → Type 0
CandidatesPermit W parts codes = (i : ℕ) → i < codes.bits → Permits W codes.words (IsCandidate parts codes i) i

-- if information flows so, the candidates of each latch permit its bit
abbrev pub FlowPermits : Type 0
FlowPermits =
    (W : KissFile) (parts : List Part) (codes : Codes) → All (IsPart (length W.states)) parts → IsCode (length W.states) parts codes
    → NeverLeaves W
    → Flows W parts → CandidatesPermit W parts codes
