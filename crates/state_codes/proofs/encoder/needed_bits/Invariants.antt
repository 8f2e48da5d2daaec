use Rattle.std.proofs.Common.{ℕ, ◌<◌, ◌^◌}
use Rattle.state_codes.proofs.encoder.needed_bits.Given as goal

abbrev pub invariant-loop-bits : goal.invariant-loop-bits
invariant-loop-bits l = (fewer : ℕ) → fewer < l.bits → 2 ^ fewer < l.blocks
