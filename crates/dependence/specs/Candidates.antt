-- Which bits the gate of a latch may read: those of its own part, and the carrier bits of the parts that its part reads
-- (source: Hartmanis and Stearns, the flow of information between the parts of a decomposition).
use Rattle.std.specs.Prelude.{◌≡◌, ◌⊎◌, ℕ, ◌<◌, true, Contains, List, Some, slice_get, slice_index}
use Rattle.state_codes.specs.declared.split.Part.{Part}
use Rattle.state_codes.specs.declared.Codes.{Codes}

-- part j may read part l
abbrev pub MayReadPart : List Part → ℕ → ℕ → Type 0
MayReadPart parts j l = (part : Part) × (slice_get parts j ≡ Some part) × Contains part.reads l

-- bit c codes the carrier of a part that part j may read
pub record IsCarrierBitFor (parts : List Part) (codes : Codes) (j c : ℕ) : Type 0 where
  pub carried : slice_get codes.carried c ≡ Some true
  pub reads : MayReadPart parts j (slice_index codes.owner c)

-- bit c is one of part j, or a carrier bit of a part that it may read
abbrev pub IsOpenTo : List Part → Codes → ℕ → ℕ → Type 0
IsOpenTo parts codes j c = (slice_index codes.owner c ≡ j) ⊎ IsCarrierBitFor parts codes j c

-- the candidates of latch i
pub record IsCandidate (parts : List Part) (codes : Codes) (i c : ℕ) : Type 0 where
  pub bit : c < codes.bits
  pub open_to : IsOpenTo parts codes (slice_index codes.owner i) c

-- the candidates of an output: every bit
abbrev pub IsBitOfCode : Codes → ℕ → Type 0
IsBitOfCode codes c = c < codes.bits
