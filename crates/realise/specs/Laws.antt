-- What follows from the definitions alone.
pub mod Apart
pub mod Carrying
pub mod Gates
use Rattle.std.specs.Prelude.{◌≡◌, ℕ, ◌<◌, ◌≤◌, Bool, List, length, count_by}
use Rattle.std.specs.Str.{bytes_eq}
use Rattle.dependence.specs.declared.sets.ReadSet.{ReadSet}
use Rattle.dependence.specs.declared.sets.Reads.{Reads}
use Rattle.kiss_file.specs.declared.file.KissFile.{KissFile}
use Rattle.kiss_file.specs.LawfulFile.{IsLawful}
use Rattle.machine_table.specs.NextStates.{NeverLeaves}
use Rattle.net_core.specs.declared.Network.{Network}
use Rattle.net_core.specs.declared.SignalNames.{SignalNames}
use Rattle.net_core.specs.FlatNetwork.{IsFlat}
use Rattle.realise.specs.CarriedMachine.{Carries}
use Rattle.realise.specs.Names.{AreNames, all_names}
use Rattle.realise.specs.CodeNetwork.{AreCounted, AreEnough, IsEnough, IsRealised}
use Rattle.realise.specs.Rows.{read_values}

-- no name occurs twice
abbrev pub ArePairwiseDistinct : SignalNames → Type 0
ArePairwiseDistinct names = (name : List ℕ) → count_by (bytes_eq name) (all_names names) ≤ 1

abbrev pub NamesAreApart : Type 0
NamesAreApart =
    (F : KissFile) (latches : ℕ) (names : SignalNames) → IsLawful F → latches ≤ 64 → AreNames F latches names → AreCounted F latches names × ArePairwiseDistinct names

abbrev pub RealisedIsFlat : Type 0
RealisedIsFlat =
    (F : KissFile) (bits : ℕ) (words : List ℕ) (reads : Reads) (names : SignalNames) (N : Network)
    → AreCounted F bits names → ArePairwiseDistinct names → AreEnough F bits words reads → IsRealised F bits words reads names N → IsFlat N

abbrev pub RealisedCarries : Type 0
RealisedCarries =
    (F : KissFile) (bits : ℕ) (words : List ℕ) (reads : Reads) (names : SignalNames) (N : Network)
    → NeverLeaves F → length words ≡ length F.states → AreCounted F bits names → ArePairwiseDistinct names → AreEnough F bits words reads → IsRealised F bits words reads names N → Carries F N words

-- a gate that reads enough gives the same value wherever it reads the same
abbrev pub EqualReads : Type 0
EqualReads =
    (F : KissFile) (words : List ℕ) (set : ReadSet) (value : ℕ → List Bool → Bool) → IsEnough F words value set
    → (s t : ℕ) (x y : List Bool) → s < length F.states → t < length F.states → length x ≡ F.inputs → length y ≡ F.inputs
    → read_values words set s x ≡ read_values words set t y → value s x ≡ value t y
