-- The blocks so far were appended.
use Rattle.std.proofs.Common.{◌≡◌, ◌++◌, take}
use Rattle.std.specs.List.{enumerate_from, flat_map}
use Rattle.cover_texts.specs.Inner.Pieces.{block_line}
use Rattle.cover_texts.proofs.blocks.append_blocks.Given as goal

abbrev pub invariant-loop-number : goal.invariant-loop-number
invariant-loop-number l = l.text.items ≡ l.initial.text.items ++ flat_map block_line (take l.number (enumerate_from 0 l.blocks))
