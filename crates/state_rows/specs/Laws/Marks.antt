-- A word without a mark.
use Rattle.std.proofs.Common.{◌≡◌, ℕ, arith}
use Rattle.std.specs.Int.{bit_at}
use Rattle.std.proofs.lemmas.Nat.Bits.{bit_at-zero}

pub none_of_zero : (k : ℕ) → bit_at 0 k ≡ 1 → ⊥
none_of_zero k one = let none = bit_at-zero k in omega (arith, none, one)
