-- What a network does at a symbol, and over words of symbols (source: Hartmanis and Stearns; the SIS manual for gates).
use Rattle.std.specs.Prelude.{◌≡◌, ℕ, ◌==◌, Bool, true, false, not, ◌||◌, ◌&&◌, if◌then◌else◌, Option, Some, None, List, [], ◌∷◌, map, All}
use Rattle.std.specs.List.{list_any}
use Rattle.net_core.specs.declared.Latch.{Latch}
use Rattle.net_core.specs.declared.Gate.{Gate}
use Rattle.net_core.specs.declared.Network.{Network}
use Rattle.net_core.specs.declared.Start.{Start}
use Rattle.net_core.specs.declared.Start.TheVariants.{Zero, One, Free, Unknown}

-- a character of a row holds a bit: 0 holds 0, 1 holds 1, a dash holds both
abbrev pub character_holds : ℕ → Bool → Bool
character_holds c bit = c == 45 || (if bit then c == 49 else c == 48)

-- a row holds the bits where each character holds the bit at its place
abbrev pub row_holds : List ℕ → List Bool → Bool
row_holds [] [] = true
row_holds (c ∷ cs) (bit ∷ bits) = character_holds c bit && row_holds cs bits
row_holds _ _ = false

-- the value of a gate for the values of its inputs
abbrev pub gate_value : Gate → List Bool → Bool
gate_value gate bits = if list_any (λ row. row_holds row bits) gate.rows then gate.on else not gate.on

-- a bit for every name that agrees with the latch values, the symbol and each gate
pub record IsValuation (N : Network) (state symbol : List Bool) (value : List ℕ → Bool) : Type 0 where
  pub inputs : map value N.inputs ≡ symbol
  pub latches : map (λ latch. value latch.output) N.latches ≡ state
  pub gates : All (λ gate. value gate.output ≡ gate_value gate (map value gate.inputs)) N.gates

-- the valuation gives these outputs and these next latch values
pub record Gives (N : Network) (value : List ℕ → Bool) (answer next : List Bool) : Type 0 where
  pub outputs : map value N.outputs ≡ answer
  pub latch_inputs : map (λ latch. value latch.input) N.latches ≡ next

-- some valuation gives these, and every valuation does
pub record Step (N : Network) (state symbol answer next : List Bool) : Type 0 where
  pub some : (value : List ℕ → Bool) × IsValuation N state symbol value × Gives N value answer next
  pub every : (value : List ℕ → Bool) → IsValuation N state symbol value → Gives N value answer next

-- the answers of the network to a word, from these latch values
abbrev pub NetAnswers : Network → List Bool → List (List Bool) → List (List Bool) → Type 0
NetAnswers N state [] answers = answers ≡ []
NetAnswers N state (symbol ∷ word) answers =
    (answer : List Bool) × (next : List Bool) × (more : List (List Bool)) × (answers ≡ answer ∷ more) × Step N state symbol answer next × NetAnswers N next word more

-- the bit of a start that is known
abbrev pub bit_of_start : Start → Option Bool
bit_of_start Zero = Some false
bit_of_start One = Some true
bit_of_start Free = None
bit_of_start Unknown = None

-- each start is known, and these are the latch values before the first symbol
abbrev pub AreStarts : List Latch → List Bool → Type 0
AreStarts latches bits = map (λ latch. bit_of_start latch.start) latches ≡ map Some bits

-- the answers to a word are determined
abbrev pub AnswersAreDetermined : Type 0
AnswersAreDetermined =
    (N : Network) (state : List Bool) (word answers others : List (List Bool)) → NetAnswers N state word answers → NetAnswers N state word others → answers ≡ others
