-- Where the codes of two states agree, and what that says about the states.
use Rattle.std.specs.Prelude.{◌≡◌, ℕ, ◌<◌, ◌≤◌, ◌↔◌, true, List, All, Some, slice_get, slice_index}
use Rattle.std.specs.Int.{bit_at}
use Rattle.partition.specs.Partition.{IsPartition, Together, blocks_of}
use Rattle.state_codes.specs.declared.split.Part.{Part}
use Rattle.state_codes.specs.declared.Codes.{Codes}
use Rattle.state_codes.specs.Split.{IsPart}
use Rattle.state_codes.specs.Code.{IsCode}

-- the codes of two states have the same bit i
abbrev pub CodesAgreeAt : List ℕ → ℕ → ℕ → ℕ → Type 0
CodesAgreeAt words i s t = bit_at (slice_index words s) i ≡ bit_at (slice_index words t) i

-- the codes of two states agree on all bits of part j
abbrev pub AgreeOnPart : Codes → ℕ → ℕ → ℕ → Type 0
AgreeOnPart codes j s t = (i : ℕ) → i < codes.bits → slice_index codes.owner i ≡ j → CodesAgreeAt codes.words i s t

-- the codes of two states agree on the bits of part j that code its carrier
abbrev pub AgreeOnCarrier : Codes → ℕ → ℕ → ℕ → Type 0
AgreeOnCarrier codes j s t = (i : ℕ) → i < codes.bits → slice_index codes.owner i ≡ j → slice_get codes.carried i ≡ Some true → CodesAgreeAt codes.words i s t

-- states with the same code are the same state
abbrev pub AreDistinct : ℕ → List ℕ → Type 0
AreDistinct n words = (s t : ℕ) → s < n → t < n → slice_index words s ≡ slice_index words t → s ≡ t

-- states are together in p exactly where their codes agree at bit i
pub record IsBitPartition (n : ℕ) (words : List ℕ) (i : ℕ) (p : List ℕ) : Type 0 where
  pub lawful : IsPartition n p
  pub together : (s t : ℕ) → s < n → t < n → Together p s t ↔ CodesAgreeAt words i s t

-- two states agree on all bits of a part exactly where they are together in its partition
abbrev pub PartBitsTell : Type 0
PartBitsTell = (n : ℕ) (parts : List Part) (codes : Codes) → All (IsPart n) parts → IsCode n parts codes
    → (j : ℕ) (part : Part) → slice_get parts j ≡ Some part → (s t : ℕ) → s < n → t < n
    → AgreeOnPart codes j s t ↔ Together part.partition s t

-- two states agree on the carrier bits of a part exactly where they are together in its carrier
abbrev pub CarrierBitsTell : Type 0
CarrierBitsTell = (n : ℕ) (parts : List Part) (codes : Codes) → All (IsPart n) parts → IsCode n parts codes
    → (j : ℕ) (part : Part) → slice_get parts j ≡ Some part → (s t : ℕ) → s < n → t < n
    → AgreeOnCarrier codes j s t ↔ Together part.carrier s t

-- the partition of a bit has at most two blocks
abbrev pub BitsHalve : Type 0
BitsHalve = (n : ℕ) (words : List ℕ) (i : ℕ) (p : List ℕ) → IsBitPartition n words i p → blocks_of p ≤ 2
