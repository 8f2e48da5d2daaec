use Rattle.state_pairs.specs.MarkedRows.{IsSearchedTo}
use Rattle.state_pairs.proofs.rows.RowsByState.first_apart_in.Given as goal

abbrev pub invariant-loop-place : goal.invariant-loop-place
invariant-loop-place g l = IsSearchedTo (g.Q.Question.said l.search.question.now) l.self l.bundle.numbers l.row l.search.least l.marks l.found

abbrev pub decreases-loop-place : goal.decreases-loop-place
decreases-loop-place g l = l.marks
