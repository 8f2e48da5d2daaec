use Rattle.std.proofs.Common.{◌≡◌, ◌++◌, map, take}
use Rattle.net_sim.specs.BitTexts.{character_of}
use Rattle.net_sim.proofs.bit_texts.push_characters.Given as goal

abbrev pub invariant-loop-bit : goal.invariant-loop-bit
invariant-loop-bit l = l.text.items ≡ l.initial.text.items ++ map character_of (take l.bit-index l.bits)
