use Rattle.state_codes.proofs.Setting.{IsSetting}
use Rattle.state_codes.proofs.draft.set_bits.Given as goal

abbrev pub invariant-loop-s : goal.invariant-loop-s
invariant-loop-s l = IsSetting l.at l.weight l.labels l.initial.words l.words l.s
