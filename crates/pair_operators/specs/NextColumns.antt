-- Next states at symbols that are asked first.
use Rattle.std.specs.Prelude.{ℕ, ◌≡◌, ◌<◌, ◌^◌, All, List, length, slice_index}
use Rattle.cubes.specs.Symbol.{symbol_of}
use Rattle.kiss_file.specs.declared.file.KissFile.{KissFile}
use Rattle.kiss_file.specs.Machine.{next}
use Rattle.pair_operators.specs.declared.next_columns.NextColumn.{NextColumn}

-- for each state, its next state at one symbol
pub record IsNextColumn (F : KissFile) (column : NextColumn) : Type 0 where
  pub symbol : ℕ
  pub within : symbol < 2 ^ F.inputs
  pub size : length column.states.items ≡ length F.states
  pub inside : All (λ t. t < length F.states) column.states.items
  pub next_state : (s : ℕ) → s < length F.states → slice_index column.states.items s ≡ next F s (symbol_of F.inputs symbol)

-- each column is that of a symbol
abbrev pub AreAsked : KissFile → List NextColumn → Type 0
AreAsked F asked = All (IsNextColumn F) asked
