-- The line of a network that is there, and the lines of kinds as a text.
use Rattle.std.specs.Prelude.{◌≡◌, ℕ, Bool, List}
use Rattle.std.specs.List.{flat_map}
use Rattle.blif_out.specs.declared.networks.HeadedNetwork.{HeadedNetwork}
use Rattle.comparisons.specs.Comparison.{AreCountsOf, AreKindLines}
use Rattle.comparisons.specs.Counts.{AreCounts}
use Rattle.comparisons.specs.Lines.{order_line, parts_line}
use Rattle.hs_io.specs.Spelling.{ended}
use Rattle.hs_texts.specs.declared.comparisons.NetworkCounts.{NetworkCounts}
use Rattle.kiss_file.specs.declared.file.KissFile.{KissFile}
use Rattle.shift_texts.specs.declared.registers.OrderedRegister.{OrderedRegister}
use Rattle.state_codes.specs.declared.split.Kind.{Kind}

-- the line has the counts of the network and its header
abbrev pub IsMadeLine : Kind → HeadedNetwork → List ℕ → Type 0
IsMadeLine kind made line = (parts : ℕ) × (counts : NetworkCounts) × AreCountsOf made parts counts × (line ≡ parts_line kind parts counts)

-- the line has the counts of the register
abbrev pub IsMadeRegisterLine : OrderedRegister → List ℕ → Type 0
IsMadeRegisterLine made line = (counts : NetworkCounts) × (counts.across ≡ 0) × AreCounts made.network counts × (line ≡ order_line made.order counts)

-- the text has the lines of the kinds, in order
abbrev pub HasKindLines : Bool → KissFile → List Kind → List ℕ → Type 0
HasKindLines reduce F kinds text = (lines : List (List ℕ)) × AreKindLines reduce F kinds lines × (text ≡ flat_map ended lines)
