-- The text of a network after comments, whatever they say.
use Rattle.std.specs.Prelude.{◌≡◌, ℕ, ◌++◌, List}
use Rattle.net_core.specs.declared.Network.{Network}
use Rattle.net_core.specs.Denotation.{Denotes}
use Rattle.net_core.specs.SoundNetwork.{Sound}
use Rattle.blif_out.specs.declared.design.Design.{Design}
use Rattle.blif_out.specs.declared.header.Header.{Header}
use Rattle.blif_out.specs.declared.networks.CommentedNetwork.{CommentedNetwork}
use Rattle.blif_out.specs.declared.networks.HeadedNetwork.{HeadedNetwork}
use Rattle.blif_out.specs.Comments.{AreComments, IsPrintable}
use Rattle.blif_out.specs.Design.{IsDesignOf}
use Rattle.blif_out.specs.Head.{Head, header_text}
use Rattle.blif_out.specs.NetText.{net_text}
use Rattle.blif_out.specs.Order.{HasKnownStarts, HasRowsInOrder}
use Rattle.blif_out.specs.Writable.{IsWritable}

-- a sound network that can be written, with known starts and the rows of its gates in order
pub record CanBeWritten (N : Network) : Type 0 where
  pub writable : IsWritable N
  pub starts : HasKnownStarts N
  pub rows : HasRowsInOrder N
  pub sound : Sound N

-- a network that can be written, with comments before it
pub record CanBeText (made : CommentedNetwork) : Type 0 where
  pub comments : AreComments made.comments
  pub network : CanBeWritten made.network

-- a network that can be written, with a header that can be printed
pub record CanBeHeaded (made : HeadedNetwork) : Type 0 where
  pub header : IsPrintable made.header
  pub network : CanBeWritten made.network

-- The text consists of comments and the text of the network, in this design, after them. It denotes the network, also after further
-- comments. The network is sound and starts at known values.
pub record IsNetworkText (design : Design) (comments : List ℕ) (N : Network) (text : List ℕ) : Type 0 where
  pub whole : text ≡ comments ++ net_text design N
  pub comments_alone : AreComments comments
  pub denotes : Denotes text N
  pub after_comments : (others : List ℕ) → AreComments others → Denotes (others ++ text) N
  pub sound : Sound N
  pub starts : HasKnownStarts N

-- the comments are those of the header, with which the text begins
pub record IsHeadedText (design : Design) (H : Header) (N : Network) (text : List ℕ) : Type 0 where
  pub of_network : IsNetworkText design (header_text H) N text
  pub head : Head design text H

-- the text of a network with comments that has a property
abbrev pub IsTextWith : Design → (CommentedNetwork → Type 0) → List ℕ → Type 0
IsTextWith design P text = (made : CommentedNetwork) × P made × IsNetworkText design made.comments made.network text

-- a network that can be written has such a text after all comments, in each of its designs
abbrev pub NetworkHasText : Type 0
NetworkHasText =
    (design : Design) (comments : List ℕ) (N : Network) → AreComments comments → CanBeWritten N → IsDesignOf N design
    → IsNetworkText design comments N (comments ++ net_text design N)

-- a text whose comments are those of a header begins with this header
abbrev pub TextHasHead : Type 0
TextHasHead =
    (design : Design) (H : Header) (N : Network) (text : List ℕ) → IsNetworkText design (header_text H) N text → IsHeadedText design H N text
