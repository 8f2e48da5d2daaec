-- A text has only one header, and the lines of a header are comments.
use Rattle.std.specs.Prelude.{◌≡◌, ℕ, ◌^◌, ◌<◌, List, length, IfSome}
use Rattle.std.specs.List.{AllByRecursion}
use Rattle.hs_io.specs.Spelling.{ArePlainFields, IsComment}
use Rattle.partition.specs.Partition.{IsPartition}
use Rattle.state_codes.specs.declared.split.Part.{Part}
use Rattle.blif_out.specs.declared.design.Design.{Design}
use Rattle.blif_out.specs.declared.header.Header.{Header}
use Rattle.blif_out.specs.declared.header.LatchNote.{LatchNote}
use Rattle.blif_out.specs.Head.{Head, head_lines}

-- labels that are a partition of some number of states
abbrev pub IsLawfulPartition : List ℕ → Type 0
IsLawfulPartition labels = IsPartition (length labels) labels

pub record IsLawfulPart (part : Part) : Type 0 where
  pub partition : IsLawfulPartition part.partition
  pub carrier : IsLawfulPartition part.carrier
  pub reads : AllByRecursion (λ number. number < 2 ^ 16) part.reads

pub record IsLawfulNote (latch : LatchNote) : Type 0 where
  pub part : latch.part < 2 ^ 16
  pub from : IsLawfulPartition latch.from
  pub to : IsLawfulPartition latch.to

-- the partitions are lawful, each state has a name that can be a field, and its code has a bit for each latch
pub record IsLawfulHeader (H : Header) : Type 0 where
  pub classes : IfSome H.classes IsLawfulPartition
  pub parts : AllByRecursion IsLawfulPart H.parts
  pub states : ArePlainFields H.states
  pub counted : length H.words ≡ length H.states
  pub words : AllByRecursion (λ word. word < 2 ^ length H.latches) H.words
  pub latches : AllByRecursion IsLawfulNote H.latches

-- the bytes begin with only one lawful header, in whatever design
abbrev pub HeadOnce : Type 0
HeadOnce =
    (design design' : Design) (bytes : List ℕ) (H H' : Header) → IsLawfulHeader H → IsLawfulHeader H' → Head design bytes H → Head design' bytes H' → H ≡ H'

-- each line of a header is a comment
abbrev pub HeadIsComments : Type 0
HeadIsComments = (H : Header) → IsLawfulHeader H → AllByRecursion IsComment (head_lines H)
