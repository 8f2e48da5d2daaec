-- Definite machines (source: Perles, Rabin and Shamir, the theory of definite automata).
use Rattle.std.specs.Prelude.{◌≡◌, ℕ, ◌<◌, ◌≤◌, ◌⊎◌, ⊤, length}
use Rattle.kiss_file.specs.declared.file.KissFile.{KissFile}
use Rattle.shift_real.specs.declared.orders.OrderFail.{OrderFail}
use Rattle.shift_real.specs.declared.orders.OrderFail.TheVariants.{NotDefinite, NoMemory}
use Rattle.shift_real.specs.Words.{MeetAfter}

-- every word of k symbols brings all states to one state
abbrev pub Definite : KissFile → ℕ → Type 0
Definite F k = (s t : ℕ) → s < length F.states → t < length F.states → MeetAfter F k s t

-- the least such k
pub record IsOrder (F : KissFile) (k : ℕ) : Type 0 where
  pub definite : Definite F k
  pub least : (fewer : ℕ) → Definite F fewer → k ≤ fewer

-- u and v come before s and t: u is less than s, or they are equal and v is less than t
abbrev pub ComeBefore : ℕ → ℕ → ℕ → ℕ → Type 0
ComeBefore u v s t = (u < s) ⊎ ((u ≡ s) × (v < t))

-- for no k does every word of k symbols bring s and t to one state, and they are the least two such states
pub record AreFirstApart (F : KissFile) (s t : ℕ) : Type 0 where
  pub first_state : s < length F.states
  pub second_state : t < length F.states
  pub apart : (k : ℕ) → MeetAfter F k s t → ⊥
  pub least : (u v : ℕ) → u < length F.states → v < length F.states → ComeBefore u v s t → (k : ℕ) × MeetAfter F k u v

-- why a machine has no order
abbrev pub IsOrderCause : KissFile → OrderFail → Type 0
IsOrderCause F (NotDefinite s t) = AreFirstApart F s t
IsOrderCause F NoMemory = ⊤
