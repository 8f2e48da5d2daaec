-- What holds of a network, its comments and their text, that are made for a cover of a file's machine (source:
-- Hartmanis and Stearns, state splitting).
use Rattle.std.specs.Prelude.{◌≡◌, ℕ, ◌+◌, Bool, List, Some, length, slice_get, slice_index}
use Rattle.blif_out.specs.declared.design.Design.{Design}
use Rattle.blif_out.specs.declared.header.LatchNote.{LatchNote}
use Rattle.blif_out.specs.declared.networks.CommentedNetwork.{CommentedNetwork}
use Rattle.blif_out.specs.NetworkText.{IsTextWith}
use Rattle.cover_split.specs.StateCover.{IsStateCover}
use Rattle.cover_split.specs.Expansion.{IsClosedCover, IsExpansion, IsFirstCopy, IsPair, IsTarget, pairs_of}
use Rattle.cover_split.specs.Parts.{IsLongest, IsSplitByBlock}
use Rattle.cover_split.specs.Refusal.{SpellsBlocks}
use Rattle.decomposition.specs.Decomposition.{HasGates}
use Rattle.decomposition.specs.OwnPairs.{OwnPairs, ReadsLatch}
use Rattle.decomposition.specs.PartReads.{IsBitOf, IsWithinParts}
use Rattle.gate_rows.specs.Names.{HasNames}
use Rattle.kiss_file.specs.declared.file.KissFile.{KissFile}
use Rattle.kiss_file.specs.Machine.{next, out}
use Rattle.net_core.specs.declared.Gate.{Gate}
use Rattle.net_core.specs.declared.Network.{Network}
use Rattle.net_core.specs.declared.SignalNames.{SignalNames}
use Rattle.net_core.specs.Step.{AreStarts, Step}
use Rattle.realise.specs.CarriedMachine.{AnswersAs}
use Rattle.realise.specs.Codes.{code_of}
use Rattle.realise.specs.Names.{AreNames}
use Rattle.state_codes.specs.declared.Codes.{Codes}
use Rattle.state_codes.specs.declared.split.Part.{Part}
use Rattle.state_codes.specs.Agreement.{AreDistinct}
use Rattle.state_codes.specs.Code.{IsCode, need}
use Rattle.cover_texts.specs.Lines.{cover_comments}

-- the starts are the code of the reset state's pair in the first block that has it
abbrev pub StartsAtFirstCopy : KissFile → List (List ℕ) → Codes → Network → Type 0
StartsAtFirstCopy F blocks codes N =
    (i : ℕ) × IsFirstCopy blocks F.reset i × AreStarts N.latches (code_of codes.bits codes.words i)

-- One step for symbol x leads from the code of pair i to the code of a pair of the next state. Here pair i is of
-- block j and state s, and the output is that of s. The block of the next pair is the first one that has the next
-- states of all states of block j.
pub record StepsTo (F : KissFile) (blocks : List (List ℕ)) (codes : Codes) (N : Network) (i j s : ℕ) (x : List Bool) : Type 0 where
  pub block : ℕ
  pub pair : ℕ
  pub target : IsTarget F blocks j x block
  pub copy : IsPair blocks pair block (next F s x)
  pub step : Step N (code_of codes.bits codes.words i) x (out F s x) (code_of codes.bits codes.words pair)

-- this holds for each pair and symbol
abbrev pub StepsAsPairs : KissFile → List (List ℕ) → Codes → Network → Type 0
StepsAsPairs F blocks codes N =
    (i j s : ℕ) (x : List Bool) → IsPair blocks i j s → length x ≡ F.inputs → StepsTo F blocks codes N i j s x

-- a latch of part 0 reads only bits of part 0
abbrev pub FrontReadsFront : Network → List LatchNote → Type 0
FrontReadsFront N notes =
    (i c : ℕ) (note : LatchNote) (gate : Gate) → slice_get notes i ≡ Some note → note.part ≡ 0 → slice_get N.gates i ≡ Some gate
    → ReadsLatch N gate c → IsBitOf notes 0 c

-- there are just as many latches as are needed to distinguish the blocks, and the states of the longest block
pub record HasLatches (blocks : List (List ℕ)) (N : Network) : Type 0 where
  pub longest : ℕ
  pub is_longest : IsLongest blocks longest
  pub count : length N.latches ≡ need (length blocks) + need longest

-- inputs and outputs have the names that the file gives; the other signals have names of their own
abbrev pub HasNamesOf : KissFile → ℕ → Network → Type 0
HasNamesOf F latches N = (names : SignalNames) × AreNames F latches names × HasNames N names

-- The comments are those of the blocks, of the codes of their pairs and of the latches. The network answers every
-- word as the machine of the file does. It goes from code to code of the pairs, which are the states of the machine
-- E of the cover's pairs. The codes are those of E's split: by the block, and by the place in the block.
pub record IsNetworkOfPairs (F : KissFile) (text : List ℕ) (blocks : List (List ℕ)) (E : KissFile) (parts : List Part) (codes : Codes) (notes : List LatchNote) (comments : List ℕ) (N : Network) : Type 0 where
  pub spelled : SpellsBlocks (length F.states) text blocks
  pub cover : IsStateCover (length F.states) blocks
  pub closed : IsClosedCover F blocks
  pub expansion : IsExpansion F blocks E
  pub split : IsSplitByBlock blocks parts
  pub code : IsCode (length (pairs_of blocks)) parts codes
  pub told : comments ≡ cover_comments F.states blocks codes.bits codes.words notes
  pub answers : AnswersAs F N
  pub starts : StartsAtFirstCopy F blocks codes N
  pub steps : StepsAsPairs F blocks codes N
  pub names : HasNamesOf F codes.bits N
  pub pairs : OwnPairs E N codes.words notes
  pub noted : length notes ≡ length N.latches
  pub owners : (i : ℕ) (note : LatchNote) → slice_get notes i ≡ Some note → note.part ≡ slice_index codes.owner i
  pub distinct : AreDistinct (length (pairs_of blocks)) codes.words
  pub front : FrontReadsFront N notes
  pub within : IsWithinParts E N codes.words notes parts
  pub latches : HasLatches blocks N
  pub gates : HasGates F E parts codes N

-- the network and its comments are those of the cover whose blocks `text` gives
unfoldable pub IsCoverNetwork : KissFile → List ℕ → CommentedNetwork → Type 0
IsCoverNetwork F text made =
    (blocks : List (List ℕ)) × (E : KissFile) × (parts : List Part) × (codes : Codes) × (notes : List LatchNote)
    × IsNetworkOfPairs F text blocks E parts codes notes made.comments made.network

-- The text is that of such a network, in the design, after its comments. It denotes the network, also after further
-- comments, and the network is sound and starts at known values.
abbrev pub IsCoverText : Design → KissFile → List ℕ → List ℕ → Type 0
IsCoverText design F text written = IsTextWith design (IsCoverNetwork F text) written
