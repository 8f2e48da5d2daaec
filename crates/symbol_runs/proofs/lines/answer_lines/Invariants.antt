-- The lines of the numbers so far were appended.
use Rattle.std.proofs.Common.{◌≡◌, map, take}
use Rattle.cubes.specs.Symbol.{lowest_bits}
use Rattle.net_sim.specs.Run.{answers_text}
use Rattle.symbol_runs.proofs.lines.answer_lines.Given as goal

abbrev pub invariant-loop-word : goal.invariant-loop-word
invariant-loop-word l = l.text.items ≡ answers_text (map (lowest_bits l.count) (take l.word-index l.words))
