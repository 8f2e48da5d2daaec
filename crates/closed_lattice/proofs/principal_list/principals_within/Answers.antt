use Rattle.std.proofs.Common.{ℕ, ◌≤◌, List, length, sym, subst, arith}
use Rattle.hs_lattice.specs.Collection.{IsCollection, items_in}
use Rattle.hs_lattice.specs.Laws.Members.{All-same}
use Rattle.partition.specs.Order.{Before}
use Rattle.partition.specs.Partition.{IsPartition}
use Rattle.closed_lattice.specs.ClosedPartitions.{IsPrincipalWithin}
use Rattle.closed_lattice.proofs.Collected.{have_same}
use Rattle.closed_lattice.proofs.principal_list.principals_within.Goals as goal

pub ascending-requires-clause-world : goal.ascending-requires-clause-world
ascending-requires-clause-world c = (c.states.ensures.some, c.states.ensures.limit)

pub ascending-requires-clause-collection : goal.ascending-requires-clause-collection
ascending-requires-clause-collection c =
    subst (λ (n : ℕ). IsCollection (λ p. p) (IsPartition n) Before c.in_ok-found.found) (sym c.states.ensures.count) c.in_ok-found.ensures.collection

pub returns-clause-members : goal.returns-clause-members
returns-clause-members c =
    let list : List (List ℕ) = c.in_ok-ascending.field-0 in
    rw c.into_vec.ensures
    (All-same (IsPrincipalWithin c.args.m.now c.args.top.now) (items_in c.in_ok-found.found) list c.in_ok-ascending.ensures.values c.in_ok-found.ensures.members)

pub returns-clause-each : goal.returns-clause-each
returns-clause-each c few s t order held =
    let F = c.args.m.now in
    let top = c.args.top.now in
    let list : List (List ℕ) = c.in_ok-ascending.field-0 in
    let short : length list ≤ c.args.limit = subst (λ (items : List (List ℕ)). length items ≤ c.args.limit) c.into_vec.ensures few in
    let have = c.in_ok-found.ensures.each (omega (arith, short, c.in_ok-ascending.ensures.count)) in
    rw c.into_vec.ensures
    (have_same F top (length F.states) (items_in c.in_ok-found.found) list c.in_ok-ascending.ensures.values have s t order (omega (arith, held.1, c.requires)) held)
