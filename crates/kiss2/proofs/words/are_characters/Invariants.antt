use Rattle.std.proofs.Common.{◌≡◌, true, take}
use Rattle.std.specs.List.{list_all}
use Rattle.kiss2.specs.Words.{is_character}
use Rattle.kiss2.proofs.words.are_characters.Given as goal

abbrev pub invariant-loop-byte : goal.invariant-loop-byte
invariant-loop-byte l = list_all is_character (take l.byte-index l.field) ≡ true
