-- Why no network is written for a cover: the refusals that a text calls for, read as a closed cover of the states
-- of a file's machine.
use Rattle.std.specs.Prelude.{◌≡◌, ℕ, List, Some, length, map, slice_get}
use Rattle.answers.specs.declared.refusals.CoverFlaw.{CoverFlaw}
use Rattle.answers.specs.declared.refusals.CoverFlaw.TheVariants.{Lacks, Leaves, Place, Places, Trivial, Within}
use Rattle.answers.specs.declared.refusals.Refusal.TheVariants.{BadCover}
use Rattle.answers.specs.Cause.{Cause}
use Rattle.cover_split.specs.declared.state_cover.CoverFail.TheVariants as fails
use Rattle.cover_split.specs.StateCover.{IsStateCover}
use Rattle.cover_split.specs.Expansion.{IsFirstLeaving}
use Rattle.cover_split.specs.Refusal.{CoverFault, SpellsBlocks}
use Rattle.cubes.specs.Symbol.{digit, symbol_of}
use Rattle.kiss_file.specs.declared.file.KissFile.{KissFile}

-- the least state that is in no block has this name
pub record LacksState (F : KissFile) (text name : List ℕ) : Type 0 where
  pub state : ℕ
  pub missing : CoverFault (length F.states) text (fails.Missing state)
  pub named : slice_get F.states state ≡ Some name

-- The blocks are those of a cover. This block is the least one that leaves the blocks: for some symbol no block has
-- its next states. The digits are those of the least such symbol.
pub record LeavesAt (F : KissFile) (text : List ℕ) (block : ℕ) (digits : List ℕ) : Type 0 where
  pub blocks : List (List ℕ)
  pub spelled : SpellsBlocks (length F.states) text blocks
  pub cover : IsStateCover (length F.states) blocks
  pub symbol : ℕ
  pub first : IsFirstLeaving F blocks block symbol
  pub shown : digits ≡ map digit (symbol_of F.inputs symbol)

-- what is wrong with the text
abbrev pub IsFlaw : KissFile → List ℕ → CoverFlaw → Type 0
IsFlaw F text (Place block place) = CoverFault (length F.states) text (fails.BadText block place)
IsFlaw F text (Within block other) = CoverFault (length F.states) text (fails.Contained block other)
IsFlaw F text (Lacks name) = LacksState F text name
IsFlaw F text (Places found) = CoverFault (length F.states) text (fails.TooMany found)
IsFlaw F text Trivial = CoverFault (length F.states) text fails.Trivial
IsFlaw F text (Leaves block digits) = LeavesAt F text block digits

-- the refusal with this flaw
abbrev pub BadCoverRow : KissFile → List ℕ → Cause
BadCoverRow F text refusal = (flaw : CoverFlaw) × (refusal ≡ BadCover flaw) × IsFlaw F text flaw
