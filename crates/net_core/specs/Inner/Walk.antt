-- Gates by their places, and the state of a walk from gate to gate.
use Rattle.std.specs.Prelude.{◌≡◌, ℕ, ◌+◌, ◌-◌, ◌<◌, ◌≤◌, ◌==◌, ⊤, List, [], ◌∷◌, length, map, count_by, slice_index, slice_index_or, slice_set, All, Contains}
use Rattle.net_core.specs.declared.gate_order.NumberedGate.{NumberedGate}
use Rattle.net_core.specs.declared.walk.Walk.{Walk}
use Rattle.net_core.specs.declared.walk.Look.{Look}
use Rattle.net_core.specs.declared.walk.Look.TheVariants.{Whole, Settled, New, Open}
use Rattle.net_core.specs.declared.walk.Stop.{Stop}
use Rattle.net_core.specs.declared.walk.Stop.TheVariants.{Cycle, NoMemory}

-- the signals that a gate reads
abbrev pub read_by : List (List ℕ) → ℕ → List ℕ
read_by reads g = slice_index_or reads g []

-- the one gate reads what the other drives, where gates drive the signals from `base` on
abbrev pub Needs : ℕ → List (List ℕ) → ℕ → ℕ → Type 0
Needs base reads g h = Contains (read_by reads g) (base + h)

-- no gate occurs twice
abbrev pub StandOnce : List ℕ → Type 0
StandOnce places = (g : ℕ) → count_by (λ place. g == place) places ≤ 1

-- each gate needs the next one, from the gate through the others to the last
abbrev pub NeedsAlong : ℕ → List (List ℕ) → ℕ → List ℕ → ℕ → Type 0
NeedsAlong base reads g [] last = Needs base reads g last
NeedsAlong base reads g (next ∷ others) last = Needs base reads g next × NeedsAlong base reads next others last

-- each gate of the path needs the next one
abbrev pub IsPath : ℕ → List (List ℕ) → List ℕ → Type 0
IsPath base reads [] = ⊤
IsPath base reads (g ∷ []) = ⊤
IsPath base reads (g ∷ next ∷ others) = Needs base reads g next × IsPath base reads (next ∷ others)

-- each gate comes after those that it needs
abbrev pub IsBehind : ℕ → List (List ℕ) → List ℕ → List ℕ → Type 0
IsBehind base reads earlier [] = ⊤
IsBehind base reads earlier (g ∷ others) = ((h : ℕ) → Needs base reads g h → Contains earlier h) × IsBehind base reads (g ∷ earlier) others

-- all gates, each once, after those that they need
pub record IsSequence (base : ℕ) (reads : List (List ℕ)) (places : List ℕ) : Type 0 where
  pub within : All (λ g. g < length reads) places
  pub whole : (g : ℕ) → g < length reads → Contains places g
  pub once : StandOnce places
  pub behind : IsBehind base reads [] places

-- gates of which each needs the next one and the last needs the first, whose place is the least
pub record IsGateCycle (base : ℕ) (reads : List (List ℕ)) (places : List ℕ) : Type 0 where
  pub first : ℕ
  pub others : List ℕ
  pub is : places ≡ first ∷ others
  pub within : All (λ g. g < length reads) places
  pub once : StandOnce places
  pub needs : NeedsAlong base reads first others first
  pub least : All (λ g. first ≤ g) places

-- what a walk that stops says
abbrev pub TellsCycle : ℕ → List (List ℕ) → Stop → Type 0
TellsCycle base reads (Cycle places) = IsGateCycle base reads places.items
TellsCycle base reads NoMemory = ⊤

abbrev pub last_stage : List (List ℕ) → ℕ → ℕ
last_stage reads g = length (read_by reads g) + 2

-- The stages of the gates, the gates on the path, and those that are placed. The stage of a gate is 0 before the walk
-- reaches it. On the path it is one more than the number of its inputs that the walk has looked at; once placed, it is two
-- more than the number of its inputs.
pub record IsWalk (base : ℕ) (reads : List (List ℕ)) (stages path placed : List ℕ) : Type 0 where
  pub count : length stages ≡ length reads
  pub bounded : (g : ℕ) → g < length reads → slice_index stages g ≤ last_stage reads g
  pub placed_are : (g : ℕ) → Contains placed g → (g < length reads) × (slice_index stages g ≡ last_stage reads g)
  pub all_placed : (g : ℕ) → g < length reads → slice_index stages g ≡ last_stage reads g → Contains placed g
  pub placed_once : StandOnce placed
  pub behind : IsBehind base reads [] placed
  pub path_are : (g : ℕ) → Contains path g → (g < length reads) × (0 < slice_index stages g) × (slice_index stages g < last_stage reads g)
  pub all_path : (g : ℕ) → g < length reads → 0 < slice_index stages g → slice_index stages g < last_stage reads g → Contains path g
  pub path_once : StandOnce path
  pub path_needs : IsPath base reads path
  pub looked_at : (g i h : ℕ) → g < length reads → i + 1 < slice_index stages g → i < length (read_by reads g) → slice_index (read_by reads g) i ≡ base + h → Contains placed h

-- the signals that each gate reads
abbrev pub reads_of : List NumberedGate → List (List ℕ)
reads_of gates = map (λ gate. gate.inputs.items) gates

abbrev pub Walks : ℕ → List NumberedGate → Walk → Type 0
Walks base gates walk = IsWalk base (reads_of gates) walk.stages.items walk.path.items walk.placed.items

abbrev pub stage_of : Walk → ℕ → ℕ
stage_of walk g = slice_index walk.stages.items g

-- the stage of one gate has risen by one
abbrev pub RisesAt : ℕ → Walk → Walk → Type 0
RisesAt g old new = new.stages.items ≡ slice_set old.stages.items g (stage_of old g + 1)

-- all that gates read is below the limit
abbrev pub ReadsWithin : ℕ → List (List ℕ) → Type 0
ReadsWithin limit reads = All (λ inputs. All (λ s. s < limit) inputs) reads

-- what is found at a gate of the path
abbrev pub IsLook : ℕ → List (List ℕ) → Walk → ℕ → Look → Type 0
IsLook base reads walk top Whole = stage_of walk top + 1 ≡ last_stage reads top
IsLook base reads walk top Settled = (stage_of walk top + 1 < last_stage reads top) × ((h : ℕ) → slice_index (read_by reads top) (stage_of walk top - 1) ≡ base + h → Contains walk.placed.items h)
IsLook base reads walk top (New next) = (next < length reads) × Needs base reads top next × (stage_of walk next ≡ 0)
IsLook base reads walk top (Open next) = Needs base reads top next × Contains walk.path.items next

-- how far the walk has come with the gate that drives an input
abbrev pub IsStanding : List (List ℕ) → Walk → ℕ → Look → Type 0
IsStanding reads walk next Whole = ⊥
IsStanding reads walk next Settled = last_stage reads next ≤ stage_of walk next
IsStanding reads walk next (New gate) = (gate ≡ next) × (stage_of walk next ≡ 0)
IsStanding reads walk next (Open gate) = (gate ≡ next) × (0 < stage_of walk next) × (stage_of walk next < last_stage reads next)
