-- The text of one block.
use Rattle.std.specs.Prelude.{◌≡◌, ℕ, ◌<◌, List, length, map}
use Rattle.std.specs.Fmt.{decimal}
use Rattle.partition.specs.Text.{pieces_of}
use Rattle.cover_split.specs.StateCover.{IsBlock}
use Rattle.cover_split.specs.Refusal.{IsStatePiece}
use Rattle.cover_split.specs.declared.state_cover.CoverFail.{CoverFail}
use Rattle.cover_split.specs.declared.state_cover.CoverFail.TheVariants.{BadText, Contained, Missing, TooMany, Trivial, NoMemory}

-- the text has the numbers of the states of the block
pub record IsBlockText (n : ℕ) (text block : List ℕ) : Type 0 where
  pub lawful : IsBlock n block
  pub spelled : pieces_of text ≡ map decimal block

-- the first piece that is not the number of a state, or is not greater than the number before it
pub record IsFirstBadPiece (n : ℕ) (pieces : List (List ℕ)) (place : ℕ) : Type 0 where
  pub within : place < length pieces
  pub bad : IsStatePiece n pieces place → ⊥
  pub before : (earlier : ℕ) → earlier < place → IsStatePiece n pieces earlier

-- why a text is not that of the block with the given number, or memory ran out
abbrev pub IsBlockFault : ℕ → List ℕ → ℕ → CoverFail → Type 0
IsBlockFault n text number (BadText block place) = (block ≡ number) × IsFirstBadPiece n (pieces_of text) place
IsBlockFault n text number (Contained a b) = ⊥
IsBlockFault n text number (Missing s) = ⊥
IsBlockFault n text number (TooMany found) = ⊥
IsBlockFault n text number Trivial = ⊥
IsBlockFault n text number NoMemory = Unit {0}
