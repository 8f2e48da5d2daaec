use Rattle.std.proofs.Common.{take}
use Rattle.std.specs.List.{flat_map}
use Rattle.case_lines.specs.Answers.{Adds}
use Rattle.case_lines.proofs.answer.Answer.add_all.Given as goal

abbrev pub invariant-loop-piece : goal.invariant-loop-piece
invariant-loop-piece l = Adds l.initial.self (flat_map (λ piece. piece.now) (take l.piece-index l.pieces)) l.self
