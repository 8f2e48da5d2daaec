-- Networks and texts that differ only in the rows of gates.
use Rattle.std.specs.Prelude.{◌≡◌, ℕ, Bool, List}
use Rattle.std.specs.List.{AllZip}
use Rattle.blif_out.specs.declared.design.Design.{Design}
use Rattle.blif_out.specs.declared.header.Header.{Header}
use Rattle.blif_out.specs.declared.networks.CommentedNetwork.{CommentedNetwork}
use Rattle.blif_out.specs.declared.networks.HeadedNetwork.{HeadedNetwork}
use Rattle.blif_out.specs.Head.{header_text}
use Rattle.blif_out.specs.HeadLaw.{IsLawfulHeader}
use Rattle.blif_out.specs.NetworkText.{IsNetworkText}
use Rattle.kiss_file.specs.declared.file.KissFile.{KissFile}
use Rattle.net_core.specs.declared.Gate.{Gate}
use Rattle.net_core.specs.declared.Network.{Network}
use Rattle.shift_texts.specs.ShiftText.{IsShiftNetwork, IsShiftText}
use Rattle.split_texts.specs.SplitText.{IsOfKind, IsWritten}
use Rattle.state_codes.specs.declared.split.Kind.{Kind}

-- two gates read the same signals in the same order and drive the same signal, and give the same value where a row
-- of theirs holds
pub record HasSameSignals (gate other : Gate) : Type 0 where
  pub inputs : gate.inputs ≡ other.inputs
  pub output : gate.output ≡ other.output
  pub on : gate.on ≡ other.on

-- two networks are equal except for the rows of their gates
pub record EqualButForRows (N M : Network) : Type 0 where
  pub inputs : N.inputs ≡ M.inputs
  pub outputs : N.outputs ≡ M.outputs
  pub latches : N.latches ≡ M.latches
  pub gates : AllZip HasSameSignals N.gates M.gates

-- ---- networks
-- two networks of decompositions of one file, of one kind, with one operand PARTS, both with `--reduce` or both without,
-- have one header and differ only in the rows of gates
abbrev pub NetworksDifferInRows : Type 0
NetworksDifferInRows =
    (kind : Kind) (operand : List ℕ) (reduce : Bool) (F : KissFile) (made more : HeadedNetwork) → IsOfKind kind operand reduce F made → IsOfKind kind operand reduce F more
    → (made.header ≡ more.header) × EqualButForRows made.network more.network

-- two networks of shift registers of one file, both with `--reduce` or both without, have the same comments and differ
-- only in the rows of gates
abbrev pub RegistersDifferInRows : Type 0
RegistersDifferInRows =
    (reduce : Bool) (F : KissFile) (made more : CommentedNetwork) → IsShiftNetwork reduce F made → IsShiftNetwork reduce F more
    → (made.comments ≡ more.comments) × EqualButForRows made.network more.network

-- ---- texts
-- The texts are those of two networks, in one design, after the same comments, and the networks are equal except for
-- the rows of their gates.
pub record DifferInRowsAlone (design : Design) (comments text other : List ℕ) : Type 0 where
  pub network : Network
  pub other_network : Network
  pub one : IsNetworkText design comments network text
  pub two : IsNetworkText design comments other_network other
  pub equal : EqualButForRows network other_network

-- two texts of such decompositions, in one design, have one lawful header and differ only in the rows of gates
abbrev pub RowsAloneDiffer : Type 0
RowsAloneDiffer =
    (design : Design) (kind : Kind) (operand : List ℕ) (reduce : Bool) (F : KissFile) (text other : List ℕ) → IsWritten design kind operand reduce F text
    → IsWritten design kind operand reduce F other → (header : Header) × IsLawfulHeader header × DifferInRowsAlone design (header_text header) text other

-- two texts of such shift registers, in one design, have the same comments and differ only in the rows of gates
abbrev pub ShiftRowsAloneDiffer : Type 0
ShiftRowsAloneDiffer =
    (design : Design) (reduce : Bool) (F : KissFile) (text other : List ℕ) → IsShiftText design reduce F text → IsShiftText design reduce F other
    → (comments : List ℕ) × DifferInRowsAlone design comments text other
