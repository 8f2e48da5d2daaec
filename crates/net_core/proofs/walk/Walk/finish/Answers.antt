use Rattle.std.proofs.Common.{◌≡◌, ◌+◌, ◌-◌, ◌<◌, ◌++◌, ◌∷◌, [], ℕ, List, get_or, length, set, take, sym, ◌∙◌, ap, subst, arith}
use Rattle.std.proofs.lemmas.List.{get_or_read}
use Rattle.net_core.specs.Inner.Walk.{IsWalk, reads_of}
use Rattle.net_core.proofs.Numbered.{stands_at}
use Rattle.net_core.proofs.Stages.{finished, short_reads, split_last}
use Rattle.net_core.proofs.walk.Walk.finish.Goals as goal
use Rattle.net_core.proofs.walk.Walk.finish.Goals.{After-index_mut}

-- the stage that is read
stage_read : (c : After-index_mut) → get_or c.args.self.now.stages.items c.args.top 0 ≡ c.index_mut.result.now
stage_read c =
    let walk = c.args.self.now in
    let on = stands_at walk.path.items (length walk.path.items - 1) c.args.top c.requires.top in
    let within : c.args.top < length walk.stages.items = omega (arith, c.requires.walk.count, (c.requires.walk.path_are c.args.top on).0) in
    sym (get_or_read walk.stages.items c.args.top c.index_mut.result.now within c.index_mut.ensures.value 0)

pub overflow_add-index_mut : goal.overflow_add-index_mut
overflow_add-index_mut c =
    omega (arith, stage_read (goal.at.overflow_add-index_mut c).After-index_mut, c.requires.whole, short_reads c.args.gates.now c.args.top)

pub returns-clause-walk : goal.returns-clause-walk
returns-clause-walk c =
    let walk = c.args.self.now in
    let reads = reads_of c.args.gates.now in
    let split = split_last walk.path.items c.args.top c.requires.top in
    let front : List ℕ = take (length walk.path.items - 1) walk.path.items in
    let popped : c.pop.new.self.items ≡ front = c.pop.ensures.rest ∙ ap (λ (n : ℕ). take (n - 1) walk.path.items) walk.path.ok.0 in
    let done : IsWalk c.args.base reads (set walk.stages.items c.args.top (get_or walk.stages.items c.args.top 0 + 1)) front (walk.placed.items ++ c.args.top ∷ []) =
    finished c.args.base reads walk.stages.items front walk.placed.items c.args.top
    (subst (λ (path : List ℕ). IsWalk c.args.base reads walk.stages.items path walk.placed.items) split c.requires.walk) c.requires.whole in
    subst (λ (stage : ℕ). IsWalk c.args.base reads (set walk.stages.items c.args.top (stage + 1)) c.pop.new.self.items c.push.new.self.items) (stage_read (goal.at.returns-clause-walk c).After-index_mut)
    (subst (λ (path : List ℕ). IsWalk c.args.base reads (set walk.stages.items c.args.top (get_or walk.stages.items c.args.top 0 + 1)) path c.push.new.self.items) (sym popped)
    (subst (λ (placed : List ℕ). IsWalk c.args.base reads (set walk.stages.items c.args.top (get_or walk.stages.items c.args.top 0 + 1)) front placed) (sym c.in_ok-push.ensures.items) done))
