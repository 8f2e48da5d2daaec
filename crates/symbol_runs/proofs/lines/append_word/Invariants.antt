-- The bits so far are the first outputs.
use Rattle.std.proofs.Common.{◌≡◌, map}
use Rattle.std.specs.List.{range_with_len}
use Rattle.cubes.specs.Symbol.{bit}
use Rattle.symbol_runs.proofs.lines.append_word.Given as goal

abbrev pub invariant-loop-place : goal.invariant-loop-place
invariant-loop-place l = l.bits.items ≡ map (bit l.word) (range_with_len 0 l.place)
