use Rattle.std.proofs.Common.{ℕ, ◌≤◌, List, length, subst, arith}
use Rattle.hs_lattice.specs.Collection.{items_in}
use Rattle.hs_lattice.specs.Laws.Members.{All-same}
use Rattle.io_pairs.specs.Inner.RightSides.{IsRight}
use Rattle.io_pairs.specs.Inner.Families.{functions_of}
use Rattle.io_pairs.proofs.Found.{have_same}
use Rattle.io_pairs.proofs.right_sides.rights.Goals as goal

pub ascending-requires-clause-world : goal.ascending-requires-clause-world
ascending-requires-clause-world c = c.requires.some_values

pub returns-clause-found : goal.returns-clause-found
returns-clause-found c =
    let family = c.args.family.now in
    let list : List (List ℕ) = c.in_ok-ascending.field-0 in
    rw c.into_vec.ensures
    (All-same (IsRight family.members family.values (functions_of family)) (items_in c.in_ok-found.found) list c.in_ok-ascending.ensures.values c.in_ok-found.ensures.found)

pub returns-clause-each : goal.returns-clause-each
returns-clause-each c few =
    let family = c.args.family.now in
    let list : List (List ℕ) = c.in_ok-ascending.field-0 in
    let short : length list ≤ c.args.limit = subst (λ (items : List (List ℕ)). length items ≤ c.args.limit) c.into_vec.ensures few in
    rw c.into_vec.ensures
    (have_same family.members family.values (functions_of family) family.members (items_in c.in_ok-found.found) list c.in_ok-ascending.ensures.values (c.in_ok-found.ensures.each (omega (arith, short, c.in_ok-ascending.ensures.count))))
