-- The machine of words and three numbers (source: this project). State i * b + j has the parts i and j. The
-- words say where each part goes, which depends on that part and the symbol alone.
use Rattle.std.specs.Prelude.{◌≡◌, ℕ, ◌+◌, ◌*◌, ◌/◌, ◌%◌, ◌^◌, ◌<◌, ◌≤◌, ◌==◌, if◌then◌else◌, List, Some, None, length, map, slice_get}
use Rattle.cubes.specs.Cube.{field_of}
use Rattle.cubes.specs.Symbol.{symbol_of}
use Rattle.kiss_file.specs.declared.file.KissFile.{KissFile}
use Rattle.kiss_file.specs.declared.file.KissRow.{KissRow}
use Rattle.kiss_file.specs.NumberedNames.{numbered_names}

-- the numbers of first parts, of second parts and of inputs of a machine that can be made
pub record AreSizes (a b k : ℕ) : Type 0 where
  pub a_low : 2 ≤ a
  pub a_high : a ≤ 128
  pub b_low : 2 ≤ b
  pub b_high : b ≤ 128
  pub states : a * b ≤ 256
  pub k_low : 1 ≤ k
  pub k_high : k ≤ 8

-- the word that is drawn for a part and the symbol with the number x, of 2 ^ k symbols
abbrev pub drawn : (ℕ → ℕ) → ℕ → ℕ → ℕ → ℕ
drawn word k part x = word (part * 2 ^ k + x)

-- where first part i goes, one of `a` first parts: the low half of the word decides
abbrev pub next_first : (ℕ → ℕ) → ℕ → ℕ → ℕ → ℕ → ℕ
next_first word a k i x = drawn word k i x % 65536 % a

-- where second part j goes, one of `b` second parts: the high half of the word decides
abbrev pub next_second : (ℕ → ℕ) → ℕ → ℕ → ℕ → ℕ → ℕ
next_second word b k j x = drawn word k j x / 65536 % b

-- The row of the state with the parts i and j at the symbol with the number x, which goes to the given state.
-- Its cube has no dash, and it gives both outputs. Output 0 is at 1 and is 1 exactly where i is 0; output 1 is
-- at 2 and is 1 exactly where j is 0.
pub record IsDrawnRow (b k i j x state : ℕ) (row : KissRow) : Type 0 where
  pub symbol : field_of row.cube ≡ map Some (symbol_of k x)
  pub from : row.from ≡ i * b + j
  pub to : row.to ≡ Some state
  pub care : row.care ≡ 3
  pub value : row.value ≡ (if i == 0 then 1 else 0) + (if j == 0 then 2 else 0)

-- a row for each state and symbol, by state and then by symbol
pub record AreRows (word : ℕ → ℕ) (a b k : ℕ) (rows : List KissRow) : Type 0 where
  pub count : length rows ≡ a * b * 2 ^ k
  pub each : (i j x : ℕ) → i < a → j < b → x < 2 ^ k
      → (row : KissRow) × (slice_get rows ((i * b + j) * 2 ^ k + x) ≡ Some row)
      × IsDrawnRow b k i j x (next_first word a k i x * b + next_second word b k j x) row

-- the machine of a * b states, k inputs and two outputs
pub record IsMachineOf (word : ℕ → ℕ) (a b k : ℕ) (F : KissFile) : Type 0 where
  pub inputs : F.inputs ≡ k
  pub outputs : F.outputs ≡ 2
  pub reset : F.reset ≡ 0
  pub states : F.states ≡ numbered_names (a * b)
  pub rows : AreRows word a b k F.rows
  pub input_names : F.input_names ≡ None
  pub output_names : F.output_names ≡ None

-- the words and the sizes determine the machine
abbrev pub HaveOneMachine : Type 0
HaveOneMachine = (word : ℕ → ℕ) (a b k : ℕ) (F G : KissFile) → AreSizes a b k → IsMachineOf word a b k F → IsMachineOf word a b k G → F ≡ G
