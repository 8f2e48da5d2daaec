use Rattle.state_pairs.specs.RowLabels.{IsAloneAt, IsSearched, SaysAlone}
use Rattle.state_pairs.proofs.rows.RowsByState.first_alone.Given as goal

abbrev pub invariant-loop-number : goal.invariant-loop-number
invariant-loop-number g l =
    IsSearched l.self l.number-items l.number-index (IsAloneAt (g.Q.Question.said l.search.question.now) l.self l.search.t (g.Q.Question.unsaid l.search.question.now l.search.t)) (SaysAlone (g.Q.Question.said l.search.question.now) l.self l.search.s l.search.t (g.Q.Question.unsaid l.search.question.now l.search.t)) l.found l.search.least
