use Rattle.std.proofs.Common.{◌≡◌, ◌++◌, ℕ, List, Contains, Some, slice_get, length, ap, subst, sym, arith}
use Rattle.state_reduce.specs.Inner.BlockNames.{currents_of, nexts_of}
use Rattle.state_reduce.specs.Quotient.{block_name}
use Rattle.state_reduce.proofs.Appearing.{place_at}
use Rattle.state_reduce.proofs.Names.{few_blocks, name_read}
use Rattle.state_reduce.proofs.block_machine.number_of.Goals as goal

pub returns : goal.returns
returns c =
    let F = c.args.file.now in
    let p = c.args.p.now in
    let name = name_read F p c.args.s c.from.result c.least_of.result c.name.result.now c.name.ensures c.least_of.ensures.least c.from.ensures in
    sym (place_at (currents_of F p F.rows ++ nexts_of F p F.rows) (block_name F p c.args.s) c.in-Some.number
    (subst (λ (names : List (List ℕ)). slice_get names c.in-Some.number ≡ Some (block_name F p c.args.s)) c.requires.names
    (subst (λ (it : List ℕ). slice_get c.args.states.now c.in-Some.number ≡ Some it) name c.in-Some.ensures.some)))

pub unreachable-requires : goal.unreachable-requires
unreachable-requires c =
    let F = c.args.file.now in
    let p = c.args.p.now in
    let name = name_read F p c.args.s c.from.result c.least_of.result c.name.result.now c.name.ensures c.least_of.ensures.least c.from.ensures in
    c.in-None.ensures.none
    (subst (λ (it : List ℕ). Contains c.args.states.now it) (sym name)
    (subst (λ (names : List (List ℕ)). Contains names (block_name F p c.args.s)) (sym c.requires.names) (c.requires.each c.args.s c.requires.s)))

pub number-requires : goal.number-requires
number-requires c = omega (arith, few_blocks c.args.file.now c.args.p.now c.requires.table, ap length c.requires.names)

pub name-requires : goal.name-requires
name-requires c = omega (arith, c.least_of.ensures.below, c.from.ensures, c.requires.s)

pub least_of-requires : goal.least_of-requires
least_of-requires c = omega (arith, c.from.ensures, c.requires.s, c.requires.p)
