-- The names of the texts so far.
use Rattle.std.proofs.Common.{◌≡◌, map, take}
use Rattle.gate_rows.proofs.texts.names_from.Given as goal

abbrev pub invariant-loop-text : goal.invariant-loop-text
invariant-loop-text l = l.names ≡ map (λ text. text.items) (take l.text-index l.texts)
