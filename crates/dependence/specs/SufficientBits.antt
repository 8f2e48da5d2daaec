-- Which bits of a code are enough for a gate (source: Hartmanis and Stearns, after their partition pairs).
use Rattle.std.specs.Prelude.{◌≡◌, ℕ, ◌<◌, Bool, List, length, slice_index}
use Rattle.std.specs.Int.{bit_at}
use Rattle.cubes.specs.Symbol.{bit}
use Rattle.kiss_file.specs.declared.file.KissFile.{KissFile}
use Rattle.kiss_file.specs.Machine.{next, output_bit}
use Rattle.state_codes.specs.Agreement.{CodesAgreeAt}

-- what the gate of latch i gives at a state and a symbol: that bit of the code of the next state
abbrev pub next_value : KissFile → List ℕ → ℕ → ℕ → List Bool → Bool
next_value F words i s x = bit (slice_index words (next F s x)) i

-- what the gate of output b gives there
abbrev pub output_value : KissFile → ℕ → ℕ → List Bool → Bool
output_value F b s x = output_bit F s x b

-- a word as a set of bits: c is in the set where bit c of the word is 1
abbrev pub InWord : ℕ → ℕ → Type 0
InWord set c = bit_at set c ≡ 1

-- the codes of two states agree at each bit of a set
abbrev pub AgreeOn : List ℕ → (ℕ → Type 0) → ℕ → ℕ → Type 0
AgreeOn words R s t = (c : ℕ) → R c → CodesAgreeAt words c s t

-- the set permits a value: two states whose codes agree on it give the same value, for each symbol
abbrev pub PermitsValue : KissFile → List ℕ → (ℕ → Type 0) → (ℕ → List Bool → Bool) → Type 0
PermitsValue F words R value =
    (s t : ℕ) (x : List Bool) → s < length F.states → t < length F.states → AgreeOn words R s t → length x ≡ F.inputs → value s x ≡ value t x

-- the set permits latch i
abbrev pub Permits : KissFile → List ℕ → (ℕ → Type 0) → ℕ → Type 0
Permits F words R i = PermitsValue F words R (next_value F words i)

-- the set permits output b
abbrev pub PermitsOutput : KissFile → List ℕ → (ℕ → Type 0) → ℕ → Type 0
PermitsOutput F words R b = PermitsValue F words R (output_value F b)
