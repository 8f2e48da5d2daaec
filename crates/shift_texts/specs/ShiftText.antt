-- The headline: what holds of a network, its comments and their text, that are the shift register of a file's
-- machine (source: Perles, Rabin and Shamir, the theory of definite automata).
use Rattle.std.specs.Prelude.{◌≡◌, ◌*◌, ℕ, Bool, List, [], ◌∷◌, codes, map}
use Rattle.std.specs.Fmt.{decimal}
use Rattle.std.specs.List.{flat_map}
use Rattle.blif_out.specs.declared.design.Design.{Design}
use Rattle.blif_out.specs.declared.networks.CommentedNetwork.{CommentedNetwork}
use Rattle.blif_out.specs.Head.{comment_text}
use Rattle.blif_out.specs.NetworkText.{IsTextWith}
use Rattle.state_reduce.specs.Work.{IsWorkOf}
use Rattle.hs_io.specs.Spelling.{ended}
use Rattle.kiss_file.specs.declared.file.KissFile.{KissFile}
use Rattle.net_core.specs.declared.Network.{Network}
use Rattle.net_core.specs.declared.SignalNames.{SignalNames}
use Rattle.realise.specs.CarriedMachine.{AnswersAs}
use Rattle.realise.specs.Names.{AreNames}
use Rattle.shift_real.specs.DefiniteMachine.{IsOrder}
use Rattle.shift_real.specs.ShiftNetwork.{IsRegister, StepsAlong}
use Rattle.shift_texts.specs.declared.registers.OrderedRegister.{OrderedRegister}

-- the fields of the two comments: what the text is, and the order
abbrev pub shift_fields : ℕ → List (List (List ℕ))
shift_fields k = (codes "hsdec" ∷ codes "shift" ∷ []) ∷ (codes "order" ∷ decimal k ∷ []) ∷ []

-- the comments, one on each line
abbrev pub shift_comments : ℕ → List ℕ
shift_comments k = flat_map ended (map comment_text (shift_fields k))

-- The comments give the order k of the work machine W, and N is the register of W for k symbols: it has the latches,
-- the starts and the gates of this register. For each content and symbol it gives the output of W and the next
-- content. Its signals have the names of the file. It answers every word as the machine of the file does from its
-- reset state.
pub record IsShiftOf (reduce : Bool) (F W : KissFile) (k : ℕ) (names : SignalNames) (comments : List ℕ) (N : Network) : Type 0 where
  pub work : IsWorkOf reduce F W
  pub order : IsOrder W k
  pub told : comments ≡ shift_comments k
  pub answers : AnswersAs F N
  pub own : AreNames F (k * W.inputs) names
  pub register : IsRegister W k names N
  pub steps : StepsAlong W k N

-- the network and its comments are the shift register of the file's machine
abbrev pub IsShiftNetwork : Bool → KissFile → CommentedNetwork → Type 0
IsShiftNetwork reduce F made = (W : KissFile) × (k : ℕ) × (names : SignalNames) × IsShiftOf reduce F W k names made.comments made.network

-- a register, with the comments of its order
abbrev pub with_comments : OrderedRegister → CommentedNetwork
with_comments made = record { comments = shift_comments made.order; network = made.network }

-- the order is that of the work machine, and the network is its register for as many symbols
abbrev pub IsOrderedRegister : Bool → KissFile → OrderedRegister → Type 0
IsOrderedRegister reduce F made =
    (W : KissFile) × (names : SignalNames) × IsShiftOf reduce F W made.order names (shift_comments made.order) made.network

-- The text is that of such a network, in the design, after its comments. It denotes the network, also after further
-- comments, and the network is sound and starts at known values.
abbrev pub IsShiftText : Design → Bool → KissFile → List ℕ → Type 0
IsShiftText design reduce F text = IsTextWith design (IsShiftNetwork reduce F) text
