-- The texts of the terms so far.
use Rattle.std.proofs.Common.{◌≡◌, map, take}
use Rattle.gate_rows.specs.Inner.Texts.{row_text}
use Rattle.gate_rows.proofs.texts.row_texts.Given as goal

abbrev pub invariant-loop-term : goal.invariant-loop-term
invariant-loop-term l = map (λ text. text.items) l.texts.items ≡ map (row_text l.width) (take l.term-index l.terms)
