-- The rows of the machine of a part: cell after cell, those of the cell's least state, on what the part reads.
use Rattle.std.specs.Prelude.{◌≡◌, ℕ, ◌+◌, Bool, List, [], ◌∷◌, ◌++◌, None, Option, Some, filter, length, map, not, option_map, slice_index, slice_index_or}
use Rattle.std.specs.List.{AllZip, flat_map, list_any, range_with_len}
use Rattle.std.specs.Option.{is_some}
use Rattle.std.specs.Str.{bytes_eq}
use Rattle.cubes.specs.Cube.{field_of}
use Rattle.cubes.specs.Symbol.{bit}
use Rattle.dependence.specs.declared.sets.ReadSet.{ReadSet}
use Rattle.dependence.specs.FilledRows.{AreFilledRows}
use Rattle.kiss_file.specs.declared.file.KissFile.{KissFile}
use Rattle.kiss_file.specs.declared.file.KissRow.{KissRow}
use Rattle.kiss_file.specs.LawfulFile.{IsLawfulRow}
use Rattle.kiss_file.specs.Machine.{given_bit}
use Rattle.partition.specs.Partition.{blocks_of}
use Rattle.state_codes.specs.declared.Codes.{Codes}
use Rattle.state_codes.specs.declared.which.Which.{Which}
use Rattle.state_codes.specs.declared.which.Which.TheVariants.{Part as Numbered, Outputs}
use Rattle.part_machines.specs.Cells.{AreCells, IsCellField}
use Rattle.part_machines.specs.Which.{own_bits}

-- a row that a machine is made of: for a part it names a next state, and for the outputs it gives an output
abbrev pub is_taken : ℕ → Which → KissRow → Bool
is_taken outputs (Numbered j) row = is_some row.to
is_taken outputs Outputs row = list_any (λ b. is_some (given_bit b row)) (range_with_len 0 outputs)

-- ---- one row made of another
-- the block to which a row goes; the machine of the outputs stays in its one state
abbrev pub next_block : List ℕ → Which → KissRow → Option ℕ
next_block p (Numbered j) row = option_map (slice_index p) row.to
next_block p Outputs row = Some 0

-- the characters that a row of state s gives: the bits of the part in the code of s, or those of the row
abbrev pub given_outputs : KissFile → Codes → Which → ℕ → KissRow → List (Option Bool)
given_outputs W code (Numbered j) s row = map (λ c. Some (bit (slice_index code.words s) c)) (own_bits code (Numbered j))
given_outputs W code Outputs s row = map (λ b. given_bit b row) (range_with_len 0 W.outputs)

-- the number of outputs: that of the part's bits, or that of W's outputs
abbrev pub output_count : KissFile → Codes → Which → ℕ
output_count W code (Numbered j) = length (own_bits code (Numbered j))
output_count W code Outputs = W.outputs

-- the characters of a field at some places
abbrev pub characters_at : List (Option Bool) → List ℕ → List (Option Bool)
characters_at field places = map (λ a. slice_index_or field a None) places

-- the row that a row of state s gives: its characters at the inputs that are read, then the field of the cell
pub record IsPartRow (W : KissFile) (code : Codes) (p : List ℕ) (set : ReadSet) (which : Which) (s : ℕ) (field : List (Option Bool)) (row made : KissRow) : Type 0 where
  pub input : field_of made.cube ≡ characters_at (field_of row.cube) set.inputs ++ field
  pub from : made.from ≡ slice_index p s
  pub to : made.to ≡ next_block p which row
  pub output : map (λ b. given_bit b made) (range_with_len 0 (output_count W code which)) ≡ given_outputs W code which s row
  pub lawful : IsLawfulRow (length set.inputs + length set.latches) (output_count W code which) (blocks_of p) made

-- ---- equal rows once
-- the number of a next state, and 0 if there is none
abbrev pub next_number : Option ℕ → ℕ
next_number None = 0
next_number (Some t) = t + 1

-- what a row is made of
abbrev pub numbers_of_row : KissRow → List ℕ
numbers_of_row row = row.cube.width ∷ row.cube.care ∷ row.cube.value ∷ row.from ∷ next_number row.to ∷ row.care ∷ row.value ∷ []

-- the rows are equal in all fields
abbrev pub is_same_row : KissRow → KissRow → Bool
is_same_row row other = bytes_eq (numbers_of_row row) (numbers_of_row other)

-- of equal rows the first
unfoldable pub rows_once : List KissRow → List KissRow
rows_once [] = []
rows_once (row ∷ rows) = row ∷ filter (λ other. not (is_same_row row other)) (rows_once rows)

-- ---- all rows
-- the rows of the cell whose least state is s
pub record AreCellRows (W : KissFile) (code : Codes) (p : List ℕ) (set : ReadSet) (which : Which) (s : ℕ) (made : List KissRow) : Type 0 where
  pub field : List (Option Bool)
  pub of_cell : IsCellField p code.words set.latches s field
  pub filled : List KissRow
  pub of_state : AreFilledRows W s filled
  pub all : List KissRow
  pub each : AllZip (IsPartRow W code p set which s field) (filter (is_taken W.outputs which) filled) all
  pub once : made ≡ rows_once all

-- the rows of the cells, in the order of their least states
pub record ArePartRows (W : KissFile) (code : Codes) (p : List ℕ) (set : ReadSet) (which : Which) (rows : List KissRow) : Type 0 where
  pub leasts : List ℕ
  pub cells : AreCells p code.words set.latches leasts
  pub lists : List (List KissRow)
  pub each : AllZip (AreCellRows W code p set which) leasts lists
  pub joined : rows ≡ flat_map (λ list. list) lists
