use Rattle.std.proofs.Common.{◌≡◌}
use Rattle.machine_gen.specs.Inner.Draws.{draws_of}
use Rattle.machine_gen.specs.Words.{word}
use Rattle.machine_gen.proofs.Words.{generator_at, stream}
use Rattle.machine_gen.proofs.draws.draws.Given as goal

abbrev pub invariant-loop-number : goal.invariant-loop-number
invariant-loop-number l = record {
  so_far : l.draws.items ≡ draws_of (word l.seed) l.a l.b l._number;
  left : stream l.generator ≡ stream (generator_at l.seed l._number);
}
