-- The network of the machine of the pairs, whatever text the cover was read from.
use Rattle.std.specs.Prelude.{ℕ, List, length}
use Rattle.blif_out.specs.declared.header.LatchNote.{LatchNote}
use Rattle.blif_out.specs.declared.networks.CommentedNetwork.{CommentedNetwork}
use Rattle.cover_split.specs.Refusal.{SpellsBlocks}
use Rattle.cover_texts.specs.CoverText.{IsNetworkOfPairs}
use Rattle.kiss_file.specs.declared.file.KissFile.{KissFile}
use Rattle.state_codes.specs.declared.Codes.{Codes}
use Rattle.state_codes.specs.declared.split.Part.{Part}

-- `made` is the network with its comments for each text that gives these blocks
abbrev pub IsWhole : KissFile → List (List ℕ) → KissFile → CommentedNetwork → Type 0
IsWhole F blocks E made =
    (parts : List Part) × (codes : Codes) × (notes : List LatchNote)
    × ((text : List ℕ) → SpellsBlocks (length F.states) text blocks → IsNetworkOfPairs F text blocks E parts codes notes made.comments made.network)
