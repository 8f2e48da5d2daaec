-- Names of states.
use Rattle.std.specs.Prelude.{ℕ, ◌≢◌, ◌<◌, ◌≤◌, All, AllPairs, List, [], codes, length, slice_index_or}
use Rattle.hs_io.specs.Spelling.{IsFieldByte}

-- no name occurs twice
abbrev pub AreDistinct : List (List ℕ) → Type 0
AreDistinct names = AllPairs (λ a b. a ≢ b) names

-- the name at a place, or no bytes past the end
abbrev pub name_of : List (List ℕ) → ℕ → List ℕ
name_of names place = slice_index_or names place []

-- a name that every reader of the form takes for the name of a state
pub record IsPlainName (name : List ℕ) : Type 0 where
  pub some : 0 < length name
  pub short : length name ≤ 64
  pub visible : All IsFieldByte name
  pub no_star : name ≢ codes "*"
  pub no_dash : name ≢ codes "-"
