-- The headline: what holds of a network, its header and their text, that are a decomposition of a file's machine.
use Rattle.std.specs.Prelude.{◌≡◌, ℕ, ◌<◌, Bool, List, length, slice_get, slice_index, Some}
use Rattle.blif_out.specs.declared.header.Header.{Header}
use Rattle.blif_out.specs.declared.header.LatchNote.{LatchNote}
use Rattle.blif_out.specs.declared.networks.HeadedNetwork.{HeadedNetwork}
use Rattle.blif_out.specs.HeadLaw.{IsLawfulHeader}
use Rattle.dependence.specs.declared.sets.Reads.{Reads}
use Rattle.dependence.specs.Reads.{AreReads}
use Rattle.kiss_file.specs.declared.file.KissFile.{KissFile}
use Rattle.net_core.specs.declared.Network.{Network}
use Rattle.net_core.specs.declared.SignalNames.{SignalNames}
use Rattle.realise.specs.CarriedMachine.{AnswersAs, Carries}
use Rattle.realise.specs.Names.{AreNames}
use Rattle.realise.specs.CodeNetwork.{AreEnough, IsRealised}
use Rattle.state_codes.specs.declared.Codes.{Codes}
use Rattle.state_codes.specs.declared.split.Kind.{Kind}
use Rattle.state_codes.specs.declared.split.Part.{Part}
use Rattle.state_codes.specs.Code.{IsCode}
use Rattle.state_reduce.specs.WorkMachine.{IsWorkMachine}
use Rattle.decomposition.specs.Irredundance.{AreIrredundant}
use Rattle.decomposition.specs.Names.{Named}
use Rattle.decomposition.specs.OwnPairs.{OwnPairs}
use Rattle.decomposition.specs.PartReads.{IsWithinParts}
use Rattle.state_reduce.specs.Work.{AreClasses}

-- the words printed for the states of the file are the codes of their classes; there is a latch for each bit, with
-- the bit's part
pub record PrintsCodes (F : KissFile) (class : ℕ → ℕ) (codes : Codes) (H : Header) : Type 0 where
  pub count : length H.words ≡ length F.states
  pub words : (s : ℕ) → s < length F.states → slice_index H.words s ≡ slice_index codes.words (class s)
  pub bits : length H.latches ≡ codes.bits
  pub owners : (i : ℕ) (note : LatchNote) → slice_get H.latches i ≡ Some note → note.part ≡ slice_index codes.owner i

-- Each gate lists exactly its read set. The bits of the set are those of the rule. They and its inputs, which are
-- those that matter, are enough for what the gate gives, and none of the bits can be left out. The rows of the gate
-- are a good cover of the values at which it gives 1 and of those at which it gives 0.
pub record HasGates (F W : KissFile) (parts : List Part) (codes : Codes) (N : Network) : Type 0 where
  pub sets : Reads
  pub by_rule : AreReads W parts codes sets
  pub enough : AreEnough W codes.bits codes.words sets
  pub irredundant : AreIrredundant W codes.words sets
  pub names : SignalNames
  pub own : AreNames F codes.bits names
  pub realised : IsRealised W codes.bits codes.words sets names N

-- What holds of a network and its header:
-- - The network answers every word as the machine of the file does from its reset state.
-- - The header has the names, the classes, and the codes that carry every step of the file's machine.
-- - The codes are those that the parts give to the states of the work machine W.
-- - Each gate of a latch reads only what its own pair and its part permit.
--
-- The header is the only lawful one that a text has, as HeadOnce of blif_out says. Two fields say again, in the
-- words of a reader of the text, what follows from others, as the line above each of them says.
pub record IsDecomposition (reduce : Bool) (F W : KissFile) (class : ℕ → ℕ) (codes : Codes) (N : Network) (H : Header) : Type 0 where
  pub lawful : IsLawfulHeader H
  -- follows from `carries`, as CarriedAnswers of realise says
  pub answers : AnswersAs F N
  pub named : Named F N H
  pub classes : AreClasses reduce F H.classes
  pub latches : length N.latches ≡ length H.latches
  pub carries : Carries F N H.words
  pub codes_of_parts : IsCode (length W.states) H.parts codes
  pub printed : PrintsCodes F class codes H
  pub pairs : OwnPairs W N codes.words H.latches
  -- that the bits of a part tell its blocks follows from `codes_of_parts` and `printed`
  pub within : IsWithinParts W N codes.words H.latches H.parts
  pub gates : HasGates F W H.parts codes N

-- the network and its header are those of a split of the work machine W of a file, of this kind and into these parts
unfoldable pub IsDecomposed : Bool → KissFile → KissFile → Kind → List Part → HeadedNetwork → Type 0
IsDecomposed reduce F W kind parts made =
    (class : ℕ → ℕ) × (codes : Codes)
    × IsWorkMachine reduce F W class × (made.header.kind ≡ kind) × (made.header.parts ≡ parts) × IsDecomposition reduce F W class codes made.network made.header
