-- The machine of the blocks of a partition of states (source: Hartmanis and Stearns, the reduced machine).
use Rattle.std.specs.Prelude.{◌≡◌, ◌<◌, ◌==◌, ◌++◌, ℕ, Bool, Contains, List, Some, filter, length, map, option_map, slice_get, slice_index}
use Rattle.std.specs.List.{filter_map, position_or_len}
use Rattle.std.specs.Str.{bytes_eq}
use Rattle.kiss_file.specs.declared.file.KissFile.{KissFile}
use Rattle.kiss_file.specs.declared.file.KissRow.{KissRow}
use Rattle.kiss_file.specs.Machine.{answers}
use Rattle.kiss_file.specs.Names.{name_of}
use Rattle.kiss2.specs.Standing.{each_once}
use Rattle.partition.specs.NestedBlocks.{least_of}
use Rattle.partition.specs.Partition.{blocks_of}
use Rattle.state_reduce.specs.AlikeStates.{IsWord}

-- the rows that are kept: those whose current state is the least of its block
abbrev pub kept_rows : KissFile → List ℕ → List KissRow
kept_rows F p = filter (λ row. least_of p row.from == row.from) F.rows

-- the block of a state has the name of its least state
abbrev pub block_name : KissFile → List ℕ → ℕ → List ℕ
block_name F p s = name_of F.states (least_of p s)

-- the names of blocks in the order of their numbers: first those of the current states of the kept rows, by
-- first appearance there, and then those of next states alone, by first appearance there
abbrev pub block_names : KissFile → List ℕ → List (List ℕ)
block_names F p =
    each_once (map (λ row. block_name F p row.from) (kept_rows F p) ++ map (block_name F p) (filter_map (λ row. row.to) (kept_rows F p)))

-- the number of the block of a state: the place of the block's name
abbrev pub block_number : KissFile → List ℕ → ℕ → ℕ
block_number F p s = position_or_len (bytes_eq (block_name F p s)) (block_names F p)

-- the row with its states replaced by their blocks
abbrev pub row_of_blocks : KissFile → List ℕ → KissRow → KissRow
row_of_blocks F p row = record row { from = block_number F p row.from; to = option_map (block_number F p) row.to }

-- Q is the file of the blocks: its rows are the kept rows, in order, and the counts and the given names are
-- those of F
pub record IsQuotient (F : KissFile) (p : List ℕ) (Q : KissFile) : Type 0 where
  pub inputs : Q.inputs ≡ F.inputs
  pub outputs : Q.outputs ≡ F.outputs
  pub reset : Q.reset ≡ block_number F p F.reset
  pub states : Q.states ≡ block_names F p
  pub rows : Q.rows ≡ map (row_of_blocks F p) (kept_rows F p)
  pub input_names : Q.input_names ≡ F.input_names
  pub output_names : Q.output_names ≡ F.output_names

-- each block answers every word as its members do
abbrev pub AnswersAsMembers : KissFile → List ℕ → KissFile → Type 0
AnswersAsMembers F p Q =
    (s : ℕ) (word : List (List Bool)) → s < length F.states → IsWord F.inputs word → answers Q (block_number F p s) word ≡ answers F s word

-- the name of each block is at the block's number
abbrev pub AreBlocksNamed : KissFile → List ℕ → KissFile → Type 0
AreBlocksNamed F p Q = (s : ℕ) → s < length F.states → slice_get Q.states (block_number F p s) ≡ Some (block_name F p s)

-- the state is the current state of a row
abbrev pub HasRow : KissFile → ℕ → Type 0
HasRow F s = (row : KissRow) × Contains F.rows row × (row.from ≡ s)

-- the number of a block is its label, where its least state has a row
abbrev pub HaveRowsInOrder : KissFile → List ℕ → Type 0
HaveRowsInOrder F p = (s : ℕ) → s < length F.states → HasRow F (least_of p s) → block_number F p s ≡ slice_index p s

-- the states of Q are the blocks in order
pub record AreBlocksInOrder (F : KissFile) (p : List ℕ) (Q : KissFile) : Type 0 where
  pub count : length Q.states ≡ blocks_of p
  pub numbers : (s : ℕ) → s < length F.states → block_number F p s ≡ slice_index p s
