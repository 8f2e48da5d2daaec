use Rattle.std.proofs.Common.{ℕ, ◌≤◌, All, AllPairs, List, length, sym}
use Rattle.hs_lattice.specs.Laws.Outcomes.{more-from, whole-from_four}
use Rattle.partition.specs.Order.{Before}
use Rattle.partition.specs.Laws.Labels.{IsPartition-of}
use Rattle.partition.specs.Partition.{IsPartition, IsStateCount}
use Rattle.mm_lattice.proofs.Listed.{listed, evident, unevident}
use Rattle.mm_lattice.proofs.listing.right_sides.Goals as goal

pub join_closure-requires-clause-generators : goal.join_closure-requires-clause-generators
join_closure-requires-clause-generators c k d within =
    let rights = c.requires.found in
    IsPartition-of (sym c.states.ensures.count) (rights k d within).2.low.lawful

pub returns-clause-whole : goal.returns-clause-whole
returns-clause-whole c =
    let F = c.args.m.now in
    let found = c.args.found.now in
    let rights = c.requires.found in
    let count : IsStateCount c.states.result = (c.states.ensures.some, c.states.ensures.limit) in
    whole-from_four c.join_closure.result _ _ (λ (_ : List (List ℕ)). AllPairs Before found → length found ≤ c.args.limit) (λ (items : List (List ℕ)). All (IsPartition c.states.result) items) _
    (λ items lists joins few fit. listed F c.states.result c.states.ensures.count count found rights
    (c.requires.each (few c.requires.ascending)) items lists joins)
    c.join_closure.ensures.whole c.join_closure.ensures.joined c.join_closure.ensures.few c.join_closure.ensures.fit

pub returns-clause-no_more : goal.returns-clause-no_more
returns-clause-no_more c =
    let F = c.args.m.now in
    let found = c.args.found.now in
    let rights = c.requires.found in
    let count : IsStateCount c.states.result = (c.states.ensures.some, c.states.ensures.limit) in
    whole-from_four c.join_closure.result _ _ (λ (_ : List (List ℕ)). AllPairs Before found → length found ≤ c.args.limit) (λ (items : List (List ℕ)). All (IsPartition c.states.result) items) _
    (λ items none joins few fit. unevident F c.states.result c.states.ensures.count count found rights
    (c.requires.each (few c.requires.ascending)) c.args.limit none joins)
    c.join_closure.ensures.no_more c.join_closure.ensures.joined c.join_closure.ensures.few c.join_closure.ensures.fit

pub returns-clause-more : goal.returns-clause-more
returns-clause-more c =
    let F = c.args.m.now in
    let found = c.args.found.now in
    let rights = c.requires.found in
    let count : IsStateCount c.states.result = (c.states.ensures.some, c.states.ensures.limit) in
    more-from c.join_closure.result _ _
    (λ items evidence. evident F c.states.result c.states.ensures.count count found rights c.args.limit items evidence)
    c.join_closure.ensures.more
