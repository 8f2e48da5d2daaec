use Rattle.state_pairs.specs.RowLabels.{IsApartAt, IsSearched, SayTwo}
use Rattle.state_pairs.proofs.rows.RowsByState.first_by_pairs.Given as goal

abbrev pub invariant-loop-number : goal.invariant-loop-number
invariant-loop-number g l =
    IsSearched l.self l.number-items l.number-index (IsApartAt (g.Q.Question.said l.search.question.now) l.self l.search.t) (SayTwo (g.Q.Question.said l.search.question.now) l.self l.search.s l.search.t) l.found l.search.least
