-- The headline: what holds of a network, its header and their text, that are a decomposition of a file's machine.
use Rattle.std.specs.Prelude.{◌≡◌, ◌≤◌, ℕ, Bool, List}
use Rattle.blif_out.specs.declared.design.Design.{Design}
use Rattle.blif_out.specs.declared.header.Header.{Header}
use Rattle.blif_out.specs.declared.networks.HeadedNetwork.{HeadedNetwork}
use Rattle.blif_out.specs.NetworkText.{IsHeadedText}
use Rattle.state_reduce.specs.declared.work.WorkMachine.{WorkMachine}
use Rattle.decomposition.specs.Decomposition.{IsDecomposed, IsDecomposition}
use Rattle.state_reduce.specs.Work.{IsWork}
use Rattle.kiss_file.specs.declared.file.KissFile.{KissFile}
use Rattle.net_core.specs.declared.Network.{Network}
use Rattle.split_texts.specs.Kinds.{row_of}
use Rattle.split_texts.specs.Splits.{IsSplitOf}
use Rattle.state_codes.specs.declared.Codes.{Codes}
use Rattle.state_codes.specs.declared.split.Kind.{Kind}
use Rattle.state_codes.specs.declared.split.Part.{Part}
use Rattle.state_codes.specs.Agreement.{AreDistinct}
use Rattle.state_codes.specs.Code.{IsCode}
use Rattle.state_codes.specs.Fault.{AreApart}

-- The codes, network and header of every decomposition into these parts keep what the kind promises: a least code,
-- for example, has gates that read the fewest bits. That there is one says the clause beside it, `IsDecomposed`.
abbrev pub KeepsPromises : Kind → Bool → KissFile → KissFile → List Part → Type 0
KeepsPromises kind reduce F W parts =
    (class : ℕ → ℕ) (codes : Codes) (N : Network) (H : Header) → H.parts ≡ parts → IsDecomposition reduce F W class codes N H → (row_of kind).promises W codes N

-- The network and its header are a decomposition of the machine of a file, of this kind: they are those of a split
-- of the work machine into parts that the kind asks for. By `IsDecomposed` the network answers as the machine of the
-- file does. Its codes carry every step, and each gate reads what its pair and its part permit, with nothing to
-- spare. These codes and this network also keep what the kind promises.
abbrev pub IsOfKind : Kind → List ℕ → Bool → KissFile → HeadedNetwork → Type 0
IsOfKind kind text reduce F made =
    (W : KissFile) × (parts : List Part) × IsSplitOf kind text W parts × IsDecomposed reduce F W kind parts made × KeepsPromises kind reduce F W parts

-- the text is that of such a network after its header, in the design
abbrev pub IsWritten : Design → Kind → List ℕ → Bool → KissFile → List ℕ → Type 0
IsWritten design kind text reduce F written =
    (made : HeadedNetwork) × IsOfKind kind text reduce F made × IsHeadedText design made.header made.network written

-- the codes that the parts give to n states, which the parts all distinguish
pub record AreCodes (n : ℕ) (parts : List Part) (codes : Codes) : Type 0 where
  pub apart : AreApart n parts
  pub code : IsCode n parts codes
  pub distinct : AreDistinct n codes.words
  pub short : codes.bits ≤ 64

-- the network and its header are those of the parts, whichever machine of its file the command works on
abbrev pub IsOfParts : WorkMachine → Kind → List Part → HeadedNetwork → Type 0
IsOfParts work kind parts made = (reduce : Bool) → IsWork reduce work.file.now work → IsDecomposed reduce work.file.now work.machine kind parts made
