use Rattle.std.proofs.Common.{ℕ, ◌≤◌, List, length, sym, subst, arith}
use Rattle.hs_lattice.specs.Collection.{IsCollection, items_in}
use Rattle.hs_lattice.specs.Laws.Members.{All-same}
use Rattle.partition.specs.Order.{Before}
use Rattle.partition.specs.Partition.{IsPartition}
use Rattle.mm_lattice.specs.Generators.{IsRightOf}
use Rattle.mm_lattice.proofs.Found.{have_same}
use Rattle.mm_lattice.proofs.right_sides.rights.Goals as goal

pub ascending-requires-clause-world : goal.ascending-requires-clause-world
ascending-requires-clause-world c = (c.states.ensures.some, c.states.ensures.limit)

pub ascending-requires-clause-collection : goal.ascending-requires-clause-collection
ascending-requires-clause-collection c =
    subst (λ (n : ℕ). IsCollection (λ p. p) (IsPartition n) Before c.in_ok-found.found) (sym c.states.ensures.count) c.in_ok-found.ensures.collection

pub returns-clause-found : goal.returns-clause-found
returns-clause-found c =
    let list : List (List ℕ) = c.in_ok-ascending.field-0 in
    rw c.into_vec.ensures
    (All-same (λ (q : List ℕ). (s : ℕ) × (t : ℕ) × IsRightOf c.args.m.now s t q) (items_in c.in_ok-found.found) list c.in_ok-ascending.ensures.values c.in_ok-found.ensures.found)

pub returns-clause-each : goal.returns-clause-each
returns-clause-each c few =
    let F = c.args.m.now in
    let list : List (List ℕ) = c.in_ok-ascending.field-0 in
    let short : length list ≤ c.args.limit = subst (λ (items : List (List ℕ)). length items ≤ c.args.limit) c.into_vec.ensures few in
    rw c.into_vec.ensures
    (have_same F (length F.states) (items_in c.in_ok-found.found) list c.in_ok-ascending.ensures.values (c.in_ok-found.ensures.each (omega (arith, short, c.in_ok-ascending.ensures.count))))
