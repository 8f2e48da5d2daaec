-- The header of a split with its codes.
use Rattle.std.specs.Prelude.{◌≡◌, ◌<◌, ◌^◌, ℕ, All, List, None, Option, Some, map, slice_index}
use Rattle.blif_out.specs.declared.header.Header.{Header}
use Rattle.blif_out.specs.declared.header.LatchNote.{LatchNote}
use Rattle.state_codes.specs.declared.Codes.{Codes}
use Rattle.state_codes.specs.declared.split.Part.{Part}
use Rattle.state_codes.specs.declared.split.Split.{Split}

-- the word of each state of the file: the word of its class, or its own where there are no classes
abbrev pub words_by : Option (List ℕ) → List ℕ → List ℕ
words_by None words = words
words_by (Some classes) words = map (slice_index words) classes

-- the numbers of the parts that a part reads fit into their type
abbrev pub HasSmallReads : Part → Type 0
HasSmallReads part = All (λ number. number < 2 ^ 16) part.reads

-- the header of a split, with its codes and the notes of its latches, for states of these names
pub record IsHeaderOf (names : List (List ℕ)) (grouping : Option (List ℕ)) (split : Split) (codes : Codes) (noted : List LatchNote) (H : Header) : Type 0 where
  pub kind : H.kind ≡ split.kind
  pub classes : H.classes ≡ grouping
  pub parts : H.parts ≡ split.parts
  pub reads : All HasSmallReads split.parts
  pub states : H.states ≡ names
  pub words : H.words ≡ words_by grouping codes.words
  pub latches : H.latches ≡ noted
