use Rattle.std.proofs.Common.{◌≡◌, map, take}
use Rattle.net_sim.specs.BitTexts.{character_of}
use Rattle.net_sim.proofs.bit_texts.read_characters.Given as goal

abbrev pub invariant-loop-place : goal.invariant-loop-place
invariant-loop-place l = take l.place l.text ≡ map character_of (take l.place l.bits)
