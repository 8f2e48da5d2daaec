-- What follows from the definitions alone.
pub mod Chosen
use Rattle.std.specs.Prelude.{◌≡◌, ◌↔◌, ℕ, ◌^◌, ◌<◌, ◌≤◌, Bool, Contains, List, Some, length, slice_get, slice_index}
use Rattle.std.specs.List.Sorted.{IsStrictlyIncreasing}
use Rattle.kiss_file.specs.declared.file.KissFile.{KissFile}
use Rattle.machine_table.specs.NextStates.{NeverLeaves}
use Rattle.partition.specs.Partition.{Together}
use Rattle.state_codes.specs.declared.split.Part.{Part}
use Rattle.state_codes.specs.declared.Codes.{Codes}
use Rattle.state_codes.specs.Code.{IsCode, need}
use Rattle.dependence.specs.declared.sets.Reads.{Reads}
use Rattle.dependence.specs.SufficientBits.{InWord, PermitsValue}
use Rattle.dependence.specs.ReadRule.{IsReadRule}
use Rattle.dependence.specs.Reads.{AreReads}
use Rattle.least_codes.specs.Gates.{EachReadsLeast}
use Rattle.least_codes.specs.Kind.{GiveLeastCode, IsLeastSplit}
use Rattle.least_codes.specs.LeastCode.{AreCodeWords, IsLeastCode}
use Rattle.least_codes.specs.LeastReads.{AreBitsOf, AreLeastReads, IsLeastReadSet}

-- a machine has at most one least code
abbrev pub LeastCodeIsOne : Type 0
LeastCodeIsOne = (F : KissFile) (one other : List ℕ) → IsLeastCode F one → IsLeastCode F other → one ≡ other

-- a machine has at most one split that gives its least code
abbrev pub LeastSplitIsOne : Type 0
LeastSplitIsOne =
    (F : KissFile) (one other : List Part) → IsLeastSplit one → IsLeastSplit other → GiveLeastCode F one → GiveLeastCode F other → one ≡ other

-- a machine has a least code
abbrev pub LeastCodeExists : Type 0
LeastCodeExists = (F : KissFile) → (words : List ℕ) × IsLeastCode F words

-- the bits of state 0 are 0 in the least code
abbrev pub LeastCodeHasZeros : Type 0
LeastCodeHasZeros =
    (F : KissFile) (words : List ℕ) → NeverLeaves F → 0 < length F.states → IsLeastCode F words → slice_index words 0 ≡ 0

-- a machine of 3 to 8 states has a split that gives its least code
abbrev pub LeastSplitExists : Type 0
LeastSplitExists =
    (F : KissFile) → NeverLeaves F → 3 ≤ length F.states → length F.states ≤ 8
    → (parts : List Part) × IsLeastSplit parts × GiveLeastCode F parts

-- any codes that the parts of such a split give are the least code
abbrev pub GivenCodesAreLeast : Type 0
GivenCodesAreLeast =
    (F : KissFile) (parts : List Part) (codes : Codes) → GiveLeastCode F parts → IsCode (length F.states) parts codes → IsLeastCode F codes.words

-- there is at most one least set of candidates
abbrev pub LeastReadsAreOne : Type 0
LeastReadsAreOne =
    (F : KissFile) (words : List ℕ) (candidates : ℕ) (value : ℕ → List Bool → Bool) (one other : ℕ)
    → IsLeastReadSet F words (InWord candidates) value one → IsLeastReadSet F words (InWord candidates) value other → one ≡ other

-- there are least reads where the candidates permit the value
abbrev pub LeastReadsExist : Type 0
LeastReadsExist =
    (F : KissFile) (words : List ℕ) (candidates : ℕ) (value : ℕ → List Bool → Bool) → candidates < 2 ^ 64
    → PermitsValue F words (InWord candidates) value → (reads : List ℕ) × AreLeastReads F words (InWord candidates) value reads

-- two states that are together in a part, and in the carriers of all parts that it reads, are one state
abbrev pub PartsTellAll : Type 0
PartsTellAll =
    (parts : List Part) (j : ℕ) (part : Part) (s t : ℕ) → IsLeastSplit parts → slice_get parts j ≡ Some part
    → Together part.partition s t → ((l : ℕ) (other : Part) → Contains part.reads l → slice_get parts l ≡ Some other → Together other.carrier s t)
    → s ≡ t

-- all bits of codes that are different for different states permit any value
abbrev pub AllBitsPermit : Type 0
AllBitsPermit =
    (F : KissFile) (words : List ℕ) (bits : ℕ) (value : ℕ → List Bool → Bool) → AreCodeWords (length F.states) bits words
    → PermitsValue F words (λ c. c < bits) value

-- Suppose that 3 to 8 states have different codes of as few bits as they need. Then the rule of reads gives the
-- least reads of all bits, for any value. Bit 2 alone could be fewer than bits 0 and 1; but if bit 2 alone
-- permits the value too, no bit is needed.
abbrev pub RuleGivesLeast : Type 0
RuleGivesLeast =
    (F : KissFile) (words : List ℕ) (value : ℕ → List Bool → Bool) (reads : List ℕ) → 3 ≤ length F.states → length F.states ≤ 8
    → AreCodeWords (length F.states) (need (length F.states)) words → IsStrictlyIncreasing reads
    → IsReadRule F words (λ c. c < need (length F.states)) (Contains reads) value
    → AreLeastReads F words (λ c. c < need (length F.states)) value reads

-- so the set of what is read by that rule is the least set of all bits
abbrev pub RuleGivesLeastSet : Type 0
RuleGivesLeastSet =
    (F : KissFile) (words : List ℕ) (value : ℕ → List Bool → Bool) (reads : List ℕ) (candidates set : ℕ) → 3 ≤ length F.states → length F.states ≤ 8
    → AreCodeWords (length F.states) (need (length F.states)) words → IsStrictlyIncreasing reads
    → IsReadRule F words (λ c. c < need (length F.states)) (Contains reads) value
    → ((c : ℕ) → InWord candidates c ↔ (c < need (length F.states))) → IsLeastReadSet F words (InWord candidates) value set
    → AreBitsOf set reads

-- the gates of the least code that read by that rule read least sets
abbrev pub LeastCodeReadsLeast : Type 0
LeastCodeReadsLeast =
    (F : KissFile) (parts : List Part) (codes : Codes) (reads : Reads) → 3 ≤ length F.states → length F.states ≤ 8
    → IsLeastSplit parts → GiveLeastCode F parts → IsCode (length F.states) parts codes → AreReads F parts codes reads
    → EachReadsLeast F codes reads
