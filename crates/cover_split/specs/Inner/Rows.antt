-- The rows of pairs.
use Rattle.std.specs.Prelude.{◌≡◌, ℕ, ◌-◌, ◌<◌, ◌≤◌, ◌^◌, ◌++◌, All, AllPairs, Contains, List, None, Some, length, slice_index}
use Rattle.cubes.specs.Cube.{HoldsNumber}
use Rattle.cubes.specs.Symbol.{symbol_of, lowest_bits}
use Rattle.kiss_file.specs.declared.file.KissFile.{KissFile}
use Rattle.kiss_file.specs.declared.file.KissRow.{KissRow}
use Rattle.kiss_file.specs.Machine.{out}
use Rattle.kiss_file.specs.NumberedNames.{numbered_names}
use Rattle.cover_split.specs.StateCover.{block_at}
use Rattle.cover_split.specs.Expansion.{IsFirstCopy, IsNextPair, IsPair, pairs_of}

-- a row of the pair with the number i
pub record IsPairRow (F : KissFile) (blocks : List (List ℕ)) (i : ℕ) (row : KissRow) : Type 0 where
  pub from : row.from ≡ i
  pub width : row.cube.width ≡ F.inputs
  pub target : ℕ
  pub to : row.to ≡ Some target
  pub among : target < length (pairs_of blocks)
  pub leads : (x : ℕ) → x < 2 ^ F.inputs → HoldsNumber row.cube x → IsNextPair F blocks i (symbol_of F.inputs x) target
  pub care : row.care ≡ 2 ^ F.outputs - 1
  pub value : row.value < 2 ^ F.outputs
  pub gives : (j s x : ℕ) → IsPair blocks i j s → x < 2 ^ F.inputs → HoldsNumber row.cube x → out F s (symbol_of F.inputs x) ≡ lowest_bits F.outputs row.value

-- some row of the pair with the number i holds the symbol with the number x
abbrev pub HasRowAt : List KissRow → (i x : ℕ) → Type 0
HasRowAt rows i x = (row : KissRow) × Contains rows row × (row.from ≡ i) × HoldsNumber row.cube x

-- rows of one pair, which hold all symbols
pub record AreRowsOf (F : KissFile) (blocks : List (List ℕ)) (i : ℕ) (rows : List KissRow) : Type 0 where
  pub right : All (IsPairRow F blocks i) rows
  pub each : (x : ℕ) → x < 2 ^ F.inputs → HasRowAt rows i x

-- the old list with the rows of a pair after it
abbrev pub AddsRows : KissFile → List (List ℕ) → ℕ → (old new : List KissRow) → Type 0
AddsRows F blocks i old new = (more : List KissRow) × (new ≡ old ++ more) × AreRowsOf F blocks i more

-- the rows of the first pairs, pair after pair
pub record AreRowsBelow (F : KissFile) (blocks : List (List ℕ)) (count : ℕ) (rows : List KissRow) : Type 0 where
  pub right : All (λ row. (row.from < count) × IsPairRow F blocks row.from row) rows
  pub each : (i x : ℕ) → i < count → x < 2 ^ F.inputs → HasRowAt rows i x
  pub in_order : AllPairs (λ row other. row.from ≤ other.from) rows

-- the pair with the number i is that of block j and the state at the given place of the block
pub record IsPlaceOf (blocks : List (List ℕ)) (i j place : ℕ) : Type 0 where
  pub within : place < length (block_at blocks j)
  pub pair : IsPair blocks i j (slice_index (block_at blocks j) place)

-- what the file of the pairs is made of
pub record IsBuilt (F : KissFile) (blocks : List (List ℕ)) (E : KissFile) : Type 0 where
  pub inputs : E.inputs ≡ F.inputs
  pub outputs : E.outputs ≡ F.outputs
  pub states : E.states ≡ numbered_names (length (pairs_of blocks))
  pub rows : AreRowsBelow F blocks (length (pairs_of blocks)) E.rows
  pub reset : IsFirstCopy blocks F.reset E.reset
  pub input_names : E.input_names ≡ None
  pub output_names : E.output_names ≡ None
