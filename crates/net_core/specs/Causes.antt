-- Why a network is refused: a name that is driven twice, a name that is used and not driven, or a cycle of gates.
use Rattle.std.specs.Prelude.{◌≡◌, ℕ, ◌≤◌, ⊤, Ok, Err, Result, List, [], ◌∷◌, ◌++◌, map, count_by, All, Contains}
use Rattle.std.specs.List.{flat_map}
use Rattle.std.specs.Str.{bytes_eq}
use Rattle.net_core.specs.declared.Gate.{Gate}
use Rattle.net_core.specs.declared.Network.{Network}
use Rattle.net_core.specs.declared.causes.NetFail.{NetFail}
use Rattle.net_core.specs.declared.causes.NetFail.TheVariants.{TwoDrivers, Undriven, Cycle, NoMemory}
use Rattle.net_core.specs.declared.gate_order.Order.{Order}
use Rattle.net_core.specs.SoundNetwork.{Sound, driven_by, drivers_of}

-- no name occurs twice
abbrev pub AreOnce : List (List ℕ) → Type 0
AreOnce names = (name : List ℕ) → count_by (bytes_eq name) names ≤ 1

-- the names that are used: outputs, latch inputs, and the inputs of the gates, gate by gate
abbrev pub uses_of : Network → List (List ℕ)
uses_of N = N.outputs ++ (map (λ latch. latch.input) N.latches ++ flat_map (λ gate. gate.inputs) N.gates)

-- the first name of a list that has occurred before
pub record IsFirstAgain (names : List (List ℕ)) (name : List ℕ) : Type 0 where
  pub earlier : List (List ℕ)
  pub later : List (List ℕ)
  pub is : names ≡ earlier ++ name ∷ later
  pub once : AreOnce earlier
  pub again : Contains earlier name

-- the first name of a list that is none of these
pub record IsFirstOutside (these names : List (List ℕ)) (name : List ℕ) : Type 0 where
  pub earlier : List (List ℕ)
  pub later : List (List ℕ)
  pub is : names ≡ earlier ++ name ∷ later
  pub within : All (Contains these) earlier
  pub outside : ¬ Contains these name

-- a gate of the network drives the one name and has the other among its inputs
abbrev pub GateReads : Network → List ℕ → List ℕ → Type 0
GateReads N name other = (gate : Gate) × Contains N.gates gate × (gate.output ≡ name) × Contains gate.inputs other

-- the gate of each name has the next name among its inputs: from the first name through the others to the last
abbrev pub ReadsAlong : Network → List ℕ → List (List ℕ) → List ℕ → Type 0
ReadsAlong N name [] last = GateReads N name last
ReadsAlong N name (next ∷ others) last = GateReads N name next × ReadsAlong N next others last

-- Distinct outputs of gates. The gate of each name reads the next name, and that of the last name reads the first. No
-- gate before that of the first name drives any of them.
pub record IsCycle (N : Network) (names : List (List ℕ)) : Type 0 where
  pub first : List ℕ
  pub others : List (List ℕ)
  pub is : names ≡ first ∷ others
  pub once : AreOnce names
  pub reads : ReadsAlong N first others first
  pub stands_first : (earlier : List Gate) × (gate : Gate) × (later : List Gate) × (N.gates ≡ earlier ++ gate ∷ later) × (gate.output ≡ first) × All (λ name. ¬ Contains (driven_by earlier) name) names

-- each refusal has its cause, in this order
abbrev pub IsCause : Network → NetFail → Type 0
IsCause N (TwoDrivers name) = IsFirstAgain (drivers_of N) name
IsCause N (Undriven name) = AreOnce (drivers_of N) × IsFirstOutside (drivers_of N) (uses_of N) name
IsCause N (Cycle names) = AreOnce (drivers_of N) × All (Contains (drivers_of N)) (uses_of N) × IsCycle N names
IsCause N NoMemory = ⊤

-- the failure is of the network, not of memory
abbrev pub IsOfNetwork : NetFail → Type 0
IsOfNetwork NoMemory = ⊥
IsOfNetwork _ = ⊤

-- it is an order, or memory ran out
abbrev pub AcceptsSound : Result Order NetFail → Type 0
AcceptsSound (Ok order) = ⊤
AcceptsSound (Err fail) = fail ≡ NoMemory

-- two refusals are of one kind and, except for cycles, of one name
abbrev pub AreAlike : NetFail → NetFail → Type 0
AreAlike (TwoDrivers name) (TwoDrivers other) = name ≡ other
AreAlike (Undriven name) (Undriven other) = name ≡ other
AreAlike (Cycle names) (Cycle others) = ⊤
AreAlike _ _ = ⊥

-- a sound network has no cause of a refusal
abbrev pub SoundHasNoCause : Type 0
SoundHasNoCause = (N : Network) (fail : NetFail) → IsOfNetwork fail → IsCause N fail → ¬ Sound N

-- the causes of a network are alike
abbrev pub CausesAreAlike : Type 0
CausesAreAlike = (N : Network) (fail other : NetFail) → IsOfNetwork fail → IsOfNetwork other → IsCause N fail → IsCause N other → AreAlike fail other
