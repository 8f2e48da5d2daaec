-- What makes the record of a KISS2 file lawful (source: SIS manual, KISS2, narrowed to this product's profile).
use Rattle.std.specs.Prelude.{ℕ, ◌≡◌, ◌≢◌, ◌<◌, ◌≤◌, true, All, Contains, IfSome, List, [], ◌++◌, Option, length, map, slice_index, take, unwrap_or}
use Rattle.std.specs.List.{filter_map}
use Rattle.cubes.specs.Symbol.{bit}
use Rattle.hs_io.specs.Spelling.{IsFieldByte}
use Rattle.kiss_file.specs.declared.file.KissFile.{KissFile}
use Rattle.kiss_file.specs.declared.file.KissRow.{KissRow}
use Rattle.kiss_file.specs.Names.{AreDistinct, IsPlainName}

-- a name that a text may give to an input or an output
pub record IsGivenName (name : List ℕ) : Type 0 where
  pub some : 0 < length name
  pub short : length name ≤ 64
  pub visible : All IsFieldByte name
  pub no_backslash : All (λ byte. byte ≢ 92) name

-- if names are given, there are as many as inputs or outputs
abbrev pub AreGiven : ℕ → Option (List (List ℕ)) → Type 0
AreGiven count names = IfSome names (λ given. (length given ≡ count) × All IsGivenName given)

-- the names that the text gives to inputs and outputs
abbrev pub given_names : KissFile → List (List ℕ)
given_names F = unwrap_or F.input_names [] ++ unwrap_or F.output_names []

-- a row of a file with these numbers of inputs, outputs and states; a bit is given only for an output
pub record IsLawfulRow (inputs outputs states : ℕ) (row : KissRow) : Type 0 where
  pub width : row.cube.width ≡ inputs
  pub from : row.from < states
  pub to : IfSome row.to (λ state. state < states)
  pub care : (b : ℕ) → bit row.care b ≡ true → b < outputs
  pub value : (b : ℕ) → bit row.value b ≡ true → bit row.care b ≡ true

-- the states as they appear: the current states of the rows in order, and then the next states
abbrev pub appearances : KissFile → List ℕ
appearances F = map (λ row. row.from) F.rows ++ filter_map (λ row. row.to) F.rows

-- each state appears, and where one appears, each of a lesser number has appeared before
pub record AreNumbered (F : KissFile) : Type 0 where
  pub each : (s : ℕ) → s < length F.states → Contains (appearances F) s
  pub in_order : (place s : ℕ) → place < length (appearances F) → s < slice_index (appearances F) place
      → Contains (take place (appearances F)) s

-- the record is one that a text of the profile can have
pub record IsLawful (F : KissFile) : Type 0 where
  pub some_input : 1 ≤ F.inputs
  pub inputs : F.inputs ≤ 32
  pub some_output : 1 ≤ F.outputs
  pub outputs : F.outputs ≤ 64
  pub some_row : 1 ≤ length F.rows
  pub row_count : length F.rows ≤ 65536
  pub state_count : length F.states ≤ 256
  pub distinct : AreDistinct F.states
  pub state_names : All IsPlainName F.states
  pub input_names : AreGiven F.inputs F.input_names
  pub output_names : AreGiven F.outputs F.output_names
  pub given_distinct : AreDistinct (given_names F)
  pub rows : All (IsLawfulRow F.inputs F.outputs (length F.states)) F.rows
  pub reset : F.reset < length F.states
  pub numbered : AreNumbered F
