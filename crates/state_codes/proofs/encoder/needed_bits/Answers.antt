use Rattle.std.proofs.Common.{arith}
use Rattle.std.proofs.lemmas.Nat.{one_shl}
use Rattle.state_codes.specs.Laws.Need.{first_enough}
use Rattle.state_codes.proofs.encoder.needed_bits.Goals as goal

pub returns-then-blocks-bits-clause-need : goal.returns-then-blocks-bits-clause-need
returns-then-blocks-bits-clause-need c = first_enough c.args.blocks c.loop-bits.bits (omega (arith, one_shl c.loop-bits.bits 64 (omega arith))) c.loop-bits.invariant

pub returns-clause-need : goal.returns-clause-need
returns-clause-need c = first_enough c.args.blocks 64 (omega arith) (λ fewer below. c.loop-bits.invariant fewer (omega arith))
