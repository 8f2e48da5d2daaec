use Rattle.std.proofs.Common.{◌≡◌, ◌++◌, ◌∷◌, [], List, ℕ, Contains, subst, sym, arith}
use Rattle.state_reduce.proofs.Names.{name_read}
use Rattle.state_reduce.proofs.block_machine.add_block.Goals as goal

pub returns-clause-known : goal.returns-clause-known
returns-clause-known c there =
    let name = name_read c.args.file.now c.args.p.now c.args.s c.from.result c.least_of.result c.name.result.now c.name.ensures c.least_of.ensures.least c.from.ensures in
    c.in_ok-add.ensures.known (subst (Contains c.args.states.now) (sym name) there)

pub returns-clause-last : goal.returns-clause-last
returns-clause-last c absent =
    let name = name_read c.args.file.now c.args.p.now c.args.s c.from.result c.least_of.result c.name.result.now c.name.ensures c.least_of.ensures.least c.from.ensures in
    subst (λ (it : List ℕ). c.add.new.self ≡ c.args.states.now ++ it ∷ []) name
    (c.in_ok-add.ensures.last (λ there. absent (subst (Contains c.args.states.now) name there)))

pub add-requires : goal.add-requires
add-requires c = c.requires.few

pub name-requires : goal.name-requires
name-requires c = omega (arith, c.least_of.ensures.below, c.from.ensures, c.requires.s)

pub least_of-requires : goal.least_of-requires
least_of-requires c = omega (arith, c.from.ensures, c.requires.s, c.requires.p)
