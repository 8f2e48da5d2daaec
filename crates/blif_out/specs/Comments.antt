-- The comments before a network: whole lines that a reader of the network skips.
use Rattle.std.specs.Prelude.{◌≡◌, ℕ, ◌≤◌, ◌++◌, List, length}
use Rattle.std.specs.List.{flat_map, AllByRecursion}
use Rattle.hs_io.specs.Spelling.{ArePlainFields, IsComment, ended}
use Rattle.blif_out.specs.declared.header.Header.{Header}
use Rattle.blif_out.specs.Head.{header_text}

-- the bytes are lines, each of which is a comment
abbrev pub AreComments : List ℕ → Type 0
AreComments bytes = (lines : List (List ℕ)) × AllByRecursion IsComment lines × (bytes ≡ flat_map ended lines)

-- comments after comments are comments
abbrev pub CommentsJoin : Type 0
CommentsJoin = (one other : List ℕ) → AreComments one → AreComments other → AreComments (one ++ other)

-- what can be the header of a text: each state has a name that can be a field, and a code
pub record IsPrintable (H : Header) : Type 0 where
  pub states : ArePlainFields H.states
  pub words : length H.words ≡ length H.states
  pub latches : length H.latches ≤ 64

-- the text of a header consists of comments
abbrev pub HeaderIsComments : Type 0
HeaderIsComments = (H : Header) → IsPrintable H → AreComments (header_text H)
