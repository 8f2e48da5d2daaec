use Rattle.std.proofs.Common.{◌<◌, All, length, take}
use Rattle.cover_split.proofs.text.have_one_state.Given as goal

abbrev pub invariant-loop-block : goal.invariant-loop-block
invariant-loop-block l = All (λ block. length block < 2) (take l.block-index l.blocks)
