use Rattle.std.proofs.lemmas.Result.{IfOk-weaker}
use Rattle.partition.specs.MeetAndJoin.{IsJoin, IsLeastAbove}
use Rattle.partition.specs.Laws.Chains.{join_is_least}
use Rattle.partition.proofs.Partition.join.Goals as goal

pub returns-clause-least : goal.returns-clause-least
returns-clause-least c =
    IfOk-weaker c.join_of.result (λ r. IsJoin c.args.self.now c.args.q.now r) (λ r. IsLeastAbove c.args.self.now c.args.q.now r) (λ r is. join_is_least _ _ r c.requires is) (rw (c.labels.ensures.labels, c.labels-2.ensures.labels) at c.join_of.ensures)
