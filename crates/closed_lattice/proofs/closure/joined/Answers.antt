use Rattle.std.proofs.Common.{sym}
use Rattle.std.proofs.lemmas.Result.{IfOk-weaker}
use Rattle.partition.specs.MeetAndJoin.{IsJoin}
use Rattle.partition.specs.Laws.Joins.{join_turned}
use Rattle.closed_lattice.proofs.closure.joined.Goals as goal

pub returns-then-blocks : goal.returns-then-blocks
returns-then-blocks c =
    IfOk-weaker c.join.result (IsJoin c.args.q.now c.args.p.now) (IsJoin c.args.p.now c.args.q.now)
    (λ r joined. join_turned c.args.q.now c.args.p.now r (sym c.requires) joined) c.join.ensures.join
