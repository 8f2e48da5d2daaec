-- Where one number turns from another, by their bits from the highest down. Private functions need it; no public contract
-- cites it.
use Rattle.std.specs.Prelude.{◌≡◌, ℕ, ◌<◌, ◌^◌, ◌↔◌, Contains, List}
use Rattle.std.specs.Int.{bit_at}

-- the other number has the same bits above a place, and another bit there
pub record Turns (number other place : ℕ) : Type 0 where
  pub above : (i : ℕ) → place < i → bit_at other i ≡ bit_at number i
  pub differs : bit_at other place ≡ bit_at number place → ⊥

-- the word has a bit exactly where one of the numbers turns from the number
pub record AreTurns (shown : List ℕ) (number width care : ℕ) : Type 0 where
  pub each : (place : ℕ) → (bit_at care place ≡ 1) ↔ ((other : ℕ) × Contains shown other × Turns number other place)
  pub below : care < 2 ^ width
