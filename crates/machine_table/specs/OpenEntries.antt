-- What rows leave open.
use Rattle.std.specs.Prelude.{ℕ, ◌+◌, ◌≡◌, ◌<◌, ◌^◌, ◌⊎◌, IsSome, length}
use Rattle.cubes.specs.Symbol.{symbol_of}
use Rattle.kiss_file.specs.declared.file.KissFile.{KissFile}
use Rattle.kiss_file.specs.declared.file.KissRow.{KissRow}
use Rattle.kiss_file.specs.Machine.{IsRowAt, given_bit}
use Rattle.machine_table.specs.declared.open_part.Missing.{Missing}
use Rattle.machine_table.specs.declared.open_part.Missing.TheVariants.{Next, Output}

-- the row gives that part: it names a next state, or gives a bit at the output
abbrev pub Says : Missing → KissRow → Type 0
Says Next row = IsSome row.to
Says (Output b) row = IsSome (given_bit b row)

-- the place of a part: first the next state, then the outputs in order
abbrev pub place_of : Missing → ℕ
place_of Next = 0
place_of (Output b) = b + 1

-- some row of the state that holds the symbol with that number gives the part
abbrev pub IsSaid : KissFile → ℕ → ℕ → Missing → Type 0
IsSaid F s number part = (row : KissRow) × IsRowAt F s (symbol_of F.inputs number) row × Says part row

-- the first entry comes before the other: it has a lesser state, or the same state and a lesser symbol, or the same
-- state and symbol and a lesser place
abbrev pub StandsBefore : (s number : ℕ) → Missing → (t other : ℕ) → Missing → Type 0
StandsBefore s number part t other last =
    (s < t) ⊎ (((s ≡ t) × (number < other)) ⊎ ((s ≡ t) × (number ≡ other) × (place_of part < place_of last)))

-- an entry of the file: a state, the number of a symbol, and the next state or an output
pub record IsEntry (F : KissFile) (s number : ℕ) (part : Missing) : Type 0 where
  pub among_states : s < length F.states
  pub among_symbols : number < 2 ^ F.inputs
  pub kind : place_of part < F.outputs + 1

-- the first entry of the file that no row gives
pub record IsFirstOpen (F : KissFile) (s number : ℕ) (part : Missing) : Type 0 where
  pub entry : IsEntry F s number part
  pub open_there : IsSaid F s number part → ⊥
  pub first : (t other : ℕ) (earlier : Missing) → IsEntry F t other earlier → StandsBefore t other earlier s number part
      → IsSaid F t other earlier
