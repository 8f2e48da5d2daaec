-- Why a text is not a cover of n states: the first of its faults.
use Rattle.std.specs.Prelude.{◌≡◌, ℕ, ◌+◌, ◌<◌, ◌≤◌, All, List, Some, length, slice_get}
use Rattle.std.specs.Fmt.{decimal}
use Rattle.cover_split.specs.declared.state_cover.CoverFail.{CoverFail}
use Rattle.cover_split.specs.declared.state_cover.CoverFail.TheVariants.{BadText, Contained, Missing, TooMany, Trivial, NoMemory}
use Rattle.cover_split.specs.Text.{pieces_by_block, Spells}
use Rattle.cover_split.specs.StateCover.{IsBlock, IsInSomeBlock, IsTrivial, IsWithin, NoneIsWithin, places_of}

-- the piece at the given place of a block is the number of a state; if the piece before it is also the number
-- of a state, this number is the greater one
pub record IsStatePiece (n : ℕ) (pieces : List (List ℕ)) (place : ℕ) : Type 0 where
  pub state : ℕ
  pub among : state < n
  pub spelled : slice_get pieces place ≡ Some (decimal state)
  pub greater : (before other : ℕ) → before + 1 ≡ place → other < n → slice_get pieces before ≡ Some (decimal other) → other < state

-- each piece of a block is the number of a state, greater than the number before it
abbrev pub AreStatePieces : ℕ → List (List ℕ) → Type 0
AreStatePieces n pieces = (place : ℕ) → place < length pieces → IsStatePiece n pieces place

-- the piece at this place of this block is the first of the text that is not such a number
pub record IsFirstBad (n : ℕ) (text : List ℕ) (block place : ℕ) : Type 0 where
  pub pieces : List (List ℕ)
  pub at_block : slice_get (pieces_by_block text) block ≡ Some pieces
  pub within : place < length pieces
  pub bad : IsStatePiece n pieces place → ⊥
  pub before : (earlier : ℕ) → earlier < place → IsStatePiece n pieces earlier
  pub blocks_before : (earlier : ℕ) (others : List (List ℕ)) → earlier < block → slice_get (pieces_by_block text) earlier ≡ Some others → AreStatePieces n others

-- b is the least block that has all of block a, and no block before a is within another
pub record IsFirstWithin (blocks : List (List ℕ)) (a b : ℕ) : Type 0 where
  pub is_within : IsWithin blocks a b
  pub least : (c : ℕ) → c < b → IsWithin blocks a c → ⊥
  pub before : (c d : ℕ) → c < a → IsWithin blocks c d → ⊥

-- the least state that is in no block
pub record IsFirstMissing (n : ℕ) (blocks : List (List ℕ)) (s : ℕ) : Type 0 where
  pub state : s < n
  pub missing : IsInSomeBlock blocks s → ⊥
  pub before : (t : ℕ) → t < s → IsInSomeBlock blocks t

-- no block is within another, and each state is in some block
pub record AreApartAndWhole (n : ℕ) (blocks : List (List ℕ)) : Type 0 where
  pub apart : NoneIsWithin blocks
  pub whole : (s : ℕ) → s < n → IsInSomeBlock blocks s

-- why blocks of states are not a cover
abbrev pub BlocksFault : ℕ → List (List ℕ) → CoverFail → Type 0
BlocksFault n blocks (BadText block place) = ⊥
BlocksFault n blocks (Contained a b) = IsFirstWithin blocks a b
BlocksFault n blocks (Missing s) = NoneIsWithin blocks × IsFirstMissing n blocks s
BlocksFault n blocks (TooMany found) = AreApartAndWhole n blocks × (256 < found) × (found ≡ places_of blocks)
BlocksFault n blocks Trivial = AreApartAndWhole n blocks × (places_of blocks ≤ 256) × IsTrivial blocks
BlocksFault n blocks NoMemory = ⊥

-- the text has the numbers of blocks of states
pub record SpellsBlocks (n : ℕ) (text : List ℕ) (blocks : List (List ℕ)) : Type 0 where
  pub lawful : All (IsBlock n) blocks
  pub spelled : Spells text blocks

-- the text is that of blocks which are not a cover, for this reason
abbrev pub IsTextOfFault : ℕ → List ℕ → CoverFail → Type 0
IsTextOfFault n text fail = (blocks : List (List ℕ)) × SpellsBlocks n text blocks × BlocksFault n blocks fail

-- why the text is refused
abbrev pub CoverFault : ℕ → List ℕ → CoverFail → Type 0
CoverFault n text (BadText block place) = IsFirstBad n text block place
CoverFault n text (Contained a b) = IsTextOfFault n text (Contained a b)
CoverFault n text (Missing s) = IsTextOfFault n text (Missing s)
CoverFault n text (TooMany found) = IsTextOfFault n text (TooMany found)
CoverFault n text Trivial = IsTextOfFault n text Trivial
CoverFault n text NoMemory = ⊥
