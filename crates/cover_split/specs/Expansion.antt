-- The machine in which a state has a copy in each block that has it (source: Hartmanis and Stearns, state splitting).
use Rattle.std.specs.Prelude.{◌≡◌, ⊤, ℕ, suc, ◌<◌, ◌++◌, All, Bool, List, [], ◌∷◌, None, Some, length, map, slice_get}
use Rattle.cubes.specs.Symbol.{symbol_of}
use Rattle.kiss_file.specs.declared.file.KissFile.{KissFile}
use Rattle.kiss_file.specs.Machine.{answers, next, out}
use Rattle.machine_table.specs.Pairs.{AtEachSymbol, IsFirstWithout}
use Rattle.kiss_file.specs.NumberedNames.{numbered_names}
use Rattle.cover_split.specs.StateCover.{Has, places_of}
use Rattle.cover_split.specs.declared.expansion.ExpandFail.{ExpandFail}
use Rattle.cover_split.specs.declared.expansion.ExpandFail.TheVariants.{NotClosed, NoMemory}

-- the pairs of block j
abbrev pub pairs_with : ℕ → List ℕ → List (ℕ × ℕ)
pairs_with j block = map (λ s. (j, s)) block

-- the pairs of a block and a state in it, with blocks numbered from j on, by block and then by state
abbrev pub pairs_from : ℕ → List (List ℕ) → List (ℕ × ℕ)
pairs_from j [] = []
pairs_from j (block ∷ blocks) = pairs_with j block ++ pairs_from (suc j) blocks

-- all pairs, in order
unfoldable pub pairs_of : List (List ℕ) → List (ℕ × ℕ)
pairs_of blocks = pairs_from 0 blocks

-- there is a pair for each place of the blocks
abbrev pub PairsFillPlaces : Type 0
PairsFillPlaces = (blocks : List (List ℕ)) → length (pairs_of blocks) ≡ places_of blocks

-- the pair with the number i is that of block j and state s
abbrev pub IsPair : List (List ℕ) → (i j s : ℕ) → Type 0
IsPair blocks i j s = slice_get (pairs_of blocks) i ≡ Some (j, s)

-- the target block has the next states of all states of block j
pub record HasNexts (F : KissFile) (blocks : List (List ℕ)) (j : ℕ) (x : List Bool) (target : ℕ) : Type 0 where
  pub block : target < length blocks
  pub each : (s : ℕ) → Has blocks j s → Has blocks target (next F s x)

-- target is the first block that has the next states of all states of block j
pub record IsTarget (F : KissFile) (blocks : List (List ℕ)) (j : ℕ) (x : List Bool) (target : ℕ) : Type 0 where
  pub has : HasNexts F blocks j x target
  pub first : (earlier : ℕ) → earlier < target → HasNexts F blocks j x earlier → ⊥

-- some block has the next states of all states of block j, at the symbol with the number x
abbrev pub StaysWithin : KissFile → List (List ℕ) → (j x : ℕ) → Type 0
StaysWithin F blocks j x = (target : ℕ) × HasNexts F blocks j (symbol_of F.inputs x) target

-- the cover is closed: this holds for each block at each symbol
abbrev pub IsClosedCover : KissFile → List (List ℕ) → Type 0
IsClosedCover F blocks = (j : ℕ) → j < length blocks → AtEachSymbol F.inputs (StaysWithin F blocks j)

-- j is the least block for which it does not hold, and x is its least such symbol
pub record IsFirstLeaving (F : KissFile) (blocks : List (List ℕ)) (j x : ℕ) : Type 0 where
  pub block : j < length blocks
  pub symbol : IsFirstWithout F.inputs (StaysWithin F blocks j) x
  pub before : (earlier : ℕ) → earlier < j → AtEachSymbol F.inputs (StaysWithin F blocks earlier)

-- why a cover gives no machine
abbrev pub Caused : KissFile → List (List ℕ) → ExpandFail → Type 0
Caused F blocks (NotClosed j x) = IsFirstLeaving F blocks j x
Caused F blocks NoMemory = ⊤

-- the first block that has the state
pub record IsFirstWith (blocks : List (List ℕ)) (s j : ℕ) : Type 0 where
  pub block : j < length blocks
  pub has : Has blocks j s
  pub first : (earlier : ℕ) → earlier < j → Has blocks earlier s → ⊥

-- the pair with the number i goes to k: the copy of the next state in the first block that has the next states
-- of all states of its block
abbrev pub IsNextPair : KissFile → List (List ℕ) → ℕ → List Bool → ℕ → Type 0
IsNextPair F blocks i x k =
    (j s : ℕ) → IsPair blocks i j s → (target : ℕ) × IsTarget F blocks j x target × IsPair blocks k target (next F s x)

-- the pair whose block is the first that has the state
abbrev pub IsFirstCopy : List (List ℕ) → (s i : ℕ) → Type 0
IsFirstCopy blocks s i = (j : ℕ) × IsFirstWith blocks s j × IsPair blocks i j s

-- E is the machine of the pairs: each has the outputs of its state
pub record IsExpansion (F : KissFile) (blocks : List (List ℕ)) (E : KissFile) : Type 0 where
  pub inputs : E.inputs ≡ F.inputs
  pub outputs : E.outputs ≡ F.outputs
  pub states : E.states ≡ numbered_names (length (pairs_of blocks))
  pub next_pairs : (i : ℕ) (x : List Bool) → length x ≡ F.inputs → IsNextPair F blocks i x (next E i x)
  pub outs : (i j s : ℕ) (x : List Bool) → IsPair blocks i j s → length x ≡ F.inputs → out E i x ≡ out F s x
  pub reset : IsFirstCopy blocks F.reset E.reset
  pub input_names : E.input_names ≡ None
  pub output_names : E.output_names ≡ None

-- each pair answers every word as its state
abbrev pub AnswersAsStates : KissFile → List (List ℕ) → KissFile → Type 0
AnswersAsStates F blocks E =
    (i j s : ℕ) (word : List (List Bool)) → IsPair blocks i j s → All (λ x. length x ≡ F.inputs) word → answers E i word ≡ answers F s word

-- the reset pair answers every word as the reset state
abbrev pub AnswersAlike : KissFile → KissFile → Type 0
AnswersAlike F E = (word : List (List Bool)) → All (λ x. length x ≡ F.inputs) word → answers E E.reset word ≡ answers F F.reset word
