-- Lists with a value for each place.
use Rattle.std.specs.Prelude.{◌≡◌, ◌<◌, ◌^◌, ℕ, List, [], length, slice_index, slice_index_or}
use Rattle.cubes.specs.Symbol.{symbol_of}
use Rattle.kiss_file.specs.declared.file.KissFile.{KissFile}
use Rattle.kiss_file.specs.Machine.{next}

-- where each symbol leads from a state
pub record AreNextStates (F : KissFile) (s : ℕ) (states : List ℕ) : Type 0 where
  pub count : length states ≡ 2 ^ F.inputs
  pub below : (x : ℕ) → x < 2 ^ F.inputs → slice_index states x < length F.states
  pub next : (x : ℕ) → x < 2 ^ F.inputs → slice_index states x ≡ next F s (symbol_of F.inputs x)

-- the list at each place below the count has a property
abbrev pub EachList : (ℕ → List ℕ → Type 0) → ℕ → List (List ℕ) → Type 0
EachList P count lists = (k : ℕ) → k < count → P k (slice_index_or lists k [])

-- the list has what is at the given place of each of the lists
pub record AreAtPlace (lists : List (List ℕ)) (place : ℕ) (list : List ℕ) : Type 0 where
  pub count : length list ≡ length lists
  pub numbers : (k : ℕ) → k < length lists → slice_index list k ≡ slice_index (slice_index_or lists k []) place
