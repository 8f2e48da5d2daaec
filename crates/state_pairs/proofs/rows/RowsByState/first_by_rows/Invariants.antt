use Rattle.std.proofs.Common.{◌<◌, ◌^◌, IfSome, length}
use Rattle.state_pairs.specs.RowLabels.{ApartBelow, MeetsApart}
use Rattle.state_pairs.proofs.rows.RowsByState.first_by_rows.Given as goal

abbrev pub invariant-loop-i : goal.invariant-loop-i
invariant-loop-i g l = record {
  some : IfSome l.found (ApartBelow (g.Q.Question.said l.search.question.now) l.self.rows l.first l.second (length l.first));
  within : IfSome l.found (λ x. x < 2 ^ l.self.inputs);
  met : MeetsApart (g.Q.Question.said l.search.question.now) l.self.rows l.first l.second l.i l.found l.search.least;
}
