use Rattle.std.proofs.Common.{◌↔◌, ℕ, ◌<◌, slice_index}
use Rattle.dependence.specs.Candidates.{IsOpenTo}
use Rattle.dependence.specs.SufficientBits.{InWord}
use Rattle.dependence.proofs.gate_reads.candidates_of.Given as goal

abbrev pub invariant-loop-c : goal.invariant-loop-c
invariant-loop-c l = (d : ℕ) → InWord l.candidates d ↔ (d < l.c × IsOpenTo l.split.parts l.codes (slice_index l.codes.owner l.i) d)
