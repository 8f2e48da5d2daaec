-- Each gate of a latch reads only what its part may read.
use Rattle.std.specs.Prelude.{◌≡◌, ℕ, ◌<◌, ◌↔◌, ◌⊎◌, All, Contains, List, Some, length, slice_get}
use Rattle.blif_out.specs.declared.header.LatchNote.{LatchNote}
use Rattle.dependence.specs.SufficientBits.{AgreeOn}
use Rattle.kiss_file.specs.declared.file.KissFile.{KissFile}
use Rattle.net_core.specs.declared.Gate.{Gate}
use Rattle.net_core.specs.declared.Network.{Network}
use Rattle.partition.specs.Partition.{Together}
use Rattle.state_codes.specs.declared.split.Part.{Part}
use Rattle.state_codes.specs.Agreement.{CodesAgreeAt}
use Rattle.state_codes.specs.Split.{IsPart}
use Rattle.decomposition.specs.OwnPairs.{ReadsLatch}

-- bit c of the codes is a bit of part j
abbrev pub IsBitOf : List LatchNote → ℕ → ℕ → Type 0
IsBitOf notes j c = (note : LatchNote) × (slice_get notes c ≡ Some note) × (note.part ≡ j)

-- part j of a split of this number of states: two states are together in its partition exactly where their codes
-- agree on its bits
pub record IsPartOf (states : ℕ) (words : List ℕ) (notes : List LatchNote) (j : ℕ) (part : Part) : Type 0 where
  pub lawful : IsPart states part
  pub bits : (s t : ℕ) → s < states → t < states → Together part.partition s t ↔ AgreeOn words (IsBitOf notes j) s t

-- a carrier bit of a part: it is equal for any two states of one block of the carrier
abbrev pub IsCarrierBit : List ℕ → Part → ℕ → Type 0
IsCarrierBit words part c = (s t : ℕ) → Together part.carrier s t → CodesAgreeAt words c s t

-- a gate of part j may read the bits of this part, and the carrier bits of the parts that this part reads
abbrev pub MayRead : List ℕ → List LatchNote → List Part → ℕ → Part → ℕ → Type 0
MayRead words notes parts j part c =
    IsBitOf notes j c
    ⊎ ((l : ℕ) × (other : Part) × Contains part.reads l × (slice_get parts l ≡ Some other) × IsBitOf notes l c × IsCarrierBit words other c)

-- the parts are what the bits of the codes say, and each gate of a latch reads only what its part may read
pub record IsWithinParts (W : KissFile) (N : Network) (words : List ℕ) (notes : List LatchNote) (parts : List Part) : Type 0 where
  pub parts_told : (j : ℕ) (part : Part) → slice_get parts j ≡ Some part → IsPartOf (length W.states) words notes j part
  pub owned : All (λ note. note.part < length parts) notes
  pub reads : (i c : ℕ) (note : LatchNote) (gate : Gate) (part : Part) → slice_get notes i ≡ Some note → slice_get N.gates i ≡ Some gate → slice_get parts note.part ≡ Some part → ReadsLatch N gate c → MayRead words notes parts note.part part c
