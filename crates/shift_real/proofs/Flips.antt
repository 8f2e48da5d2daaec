-- Numbers of contents that differ in one bit.
use Rattle.std.proofs.Common.{◌≡◌, ℕ, ◌*◌, ◌%◌, ◌^◌, ◌<◌, ◌≤◌, sym, subst, arith, bit_xor}
use Rattle.std.proofs.Math.Nat.{pow-le-pow_right}
use Rattle.std.proofs.Math.Pow.{pow-lt}
use Rattle.std.proofs.lemmas.Nat.{one_shl, xor_lt}

two_pos : 0 < 2
two_pos = omega arith

few_powers : (bits : ℕ) → bits ≤ 12 → 2 ^ bits ≤ 2 ^ 12
few_powers bits short = pow-le-pow_right two_pos short

pub few_contents : (size bits : ℕ) → size ≡ 2 ^ bits → bits ≤ 12 → size ≤ 4096
few_contents size bits is short = omega (arith, is, few_powers bits short)

pub power_below : (latch bits : ℕ) → latch < bits → 2 ^ latch < 2 ^ bits
power_below latch bits lt = pow-lt lt

pub shifted_one : (latch bits : ℕ) → latch < bits → bits ≤ 12 → 1 * 2 ^ latch % 18446744073709551616 ≡ 2 ^ latch
shifted_one latch bits lt short = one_shl latch 64 (omega (arith, lt, short))

pub flip_below : (size number bits latch : ℕ) → size ≡ 2 ^ bits → number < size → latch < bits → bits ≤ 12 → bit_xor number (1 * 2 ^ latch % 18446744073709551616) < size
flip_below size number bits latch is within lt short =
    let small : number < 2 ^ bits = omega (arith, within, is) in
    let below : bit_xor number (2 ^ latch) < 2 ^ bits = xor_lt bits number (2 ^ latch) small (power_below latch bits lt) in
    subst (λ (n : ℕ). bit_xor number n < size) (sym (shifted_one latch bits lt short)) (omega (arith, below, is))
