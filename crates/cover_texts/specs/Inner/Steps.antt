-- The results of the steps on the way to a text.
use Rattle.std.specs.Prelude.{◌≡◌, ℕ, ◌≤◌, All, List, Some, length, map, slice_get}
use Rattle.answers.specs.declared.refusals.CoverFlaw.TheVariants.{Lacks, Leaves, Place, Places, Trivial, Within}
use Rattle.answers.specs.declared.refusals.Refusal.{Refusal}
use Rattle.answers.specs.declared.refusals.Refusal.TheVariants.{BadCover, NoMemory}
use Rattle.cover_split.specs.declared.state_cover.CoverFail.{CoverFail}
use Rattle.cover_split.specs.declared.state_cover.CoverFail.TheVariants as fails
use Rattle.cover_split.specs.StateCover.{IsStateCover}
use Rattle.cover_split.specs.Expansion.{AnswersAlike, IsClosedCover, IsExpansion, IsFirstLeaving, pairs_of}
use Rattle.cover_split.specs.Parts.{IsClosedFront, IsSplitByBlock}
use Rattle.cover_split.specs.Refusal.{CoverFault, SpellsBlocks}
use Rattle.cubes.specs.Symbol.{digit, symbol_of}
use Rattle.kiss_file.specs.declared.file.KissFile.{KissFile}
use Rattle.state_codes.specs.declared.Codes.{Codes}
use Rattle.state_codes.specs.declared.split.Part.{Part}
use Rattle.state_codes.specs.Agreement.{AreDistinct}
use Rattle.state_codes.specs.Code.{IsCode}
use Rattle.state_codes.specs.Kinds.{PartsMeetInZero}
use Rattle.state_codes.specs.Split.{IsPart}

-- the refusal that says why a text is not a cover
abbrev pub IsFailRefusal : KissFile → CoverFail → Refusal → Type 0
IsFailRefusal F (fails.BadText block place) refusal = refusal ≡ BadCover (Place block place)
IsFailRefusal F (fails.Contained a b) refusal = refusal ≡ BadCover (Within a b)
IsFailRefusal F (fails.Missing state) refusal = (name : List ℕ) × (refusal ≡ BadCover (Lacks name)) × (slice_get F.states state ≡ Some name)
IsFailRefusal F (fails.TooMany found) refusal = refusal ≡ BadCover (Places found)
IsFailRefusal F fails.Trivial refusal = refusal ≡ BadCover Trivial
IsFailRefusal F fails.NoMemory refusal = refusal ≡ NoMemory

-- the blocks are the cover that the text gives, and the only one
pub record IsRead (n : ℕ) (text : List ℕ) (blocks : List (List ℕ)) : Type 0 where
  pub spelled : SpellsBlocks n text blocks
  pub cover : IsStateCover n blocks
  pub alone : (others : List (List ℕ)) → SpellsBlocks n text others → IsStateCover n others → blocks ≡ others
  pub faultless : (fail : CoverFail) → CoverFault n text fail → ⊥

-- E is the machine of the pairs of a closed cover
pub record IsExpanded (F : KissFile) (blocks : List (List ℕ)) (E : KissFile) : Type 0 where
  pub closed : IsClosedCover F blocks
  pub expansion : IsExpansion F blocks E
  pub answers : AnswersAlike F E

-- the refusal says where the cover is not closed
abbrev pub LeavesWith : KissFile → List (List ℕ) → Refusal → Type 0
LeavesWith F blocks refusal =
    (block symbol : ℕ) × IsFirstLeaving F blocks block symbol × (refusal ≡ BadCover (Leaves block (map digit (symbol_of F.inputs symbol))))

-- the parts are those of the machine of the pairs
pub record AreParts (blocks : List (List ℕ)) (parts : List Part) : Type 0 where
  pub split : IsSplitByBlock blocks parts
  pub in_zero : PartsMeetInZero parts
  pub closed : IsClosedFront blocks parts
  pub few : length parts ≤ 256
  pub lawful : All (IsPart (length (pairs_of blocks))) parts

-- the codes are those that the parts give to the pairs
pub record AreCodesOfPairs (blocks : List (List ℕ)) (parts : List Part) (codes : Codes) : Type 0 where
  pub code : IsCode (length (pairs_of blocks)) parts codes
  pub distinct : AreDistinct (length (pairs_of blocks)) codes.words
  pub short : codes.bits ≤ 64
