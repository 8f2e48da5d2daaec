use Rattle.std.proofs.Common.{◌≡◌, ◌+◌, ◌<◌, ℕ, get_or, length, set, sym, subst, arith}
use Rattle.std.proofs.lemmas.List.{get_or_read}
use Rattle.net_core.specs.Inner.Walk.{IsWalk, reads_of}
use Rattle.net_core.proofs.Stages.{advanced, short_reads}
use Rattle.net_core.proofs.walk.Walk.advance.Goals as goal
use Rattle.net_core.proofs.walk.Walk.advance.Goals.{After-index_mut}

-- the stage that is read
stage_read : (c : After-index_mut) → get_or c.args.self.now.stages.items c.args.top 0 ≡ c.index_mut.result.now
stage_read c =
    let within : c.args.top < length c.args.self.now.stages.items = omega (arith, c.requires.walk.count, (c.requires.walk.path_are c.args.top c.requires.top).0) in
    sym (get_or_read c.args.self.now.stages.items c.args.top c.index_mut.result.now within c.index_mut.ensures.value 0)

pub overflow_add-index_mut : goal.overflow_add-index_mut
overflow_add-index_mut c =
    omega (arith, stage_read (goal.at.overflow_add-index_mut c).After-index_mut, c.requires.settled.0, short_reads c.args.gates.now c.args.top)

pub returns-clause-walk : goal.returns-clause-walk
returns-clause-walk c =
    let walk = c.args.self.now in
    subst (λ (stage : ℕ). IsWalk c.args.base (reads_of c.args.gates.now) (set walk.stages.items c.args.top (stage + 1)) walk.path.items walk.placed.items) (stage_read (goal.at.returns-clause-walk c).After-index_mut)
    (advanced c.args.base (reads_of c.args.gates.now) walk.stages.items walk.path.items walk.placed.items c.args.top c.requires.walk c.requires.top c.requires.settled.0 c.requires.settled.1)
