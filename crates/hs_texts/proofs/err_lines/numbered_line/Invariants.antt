use Rattle.std.proofs.Common.{◌≡◌, ◌++◌, take}
use Rattle.std.specs.Fmt.{decimal}
use Rattle.std.specs.List.{flat_map}
use Rattle.hs_texts.proofs.err_lines.numbered_line.Given as goal

abbrev pub invariant-loop-words : goal.invariant-loop-words
invariant-loop-words l = l.line.items ≡ flat_map (λ pair. pair.0.now ++ decimal pair.1) (take l.words-index l.numbers)
