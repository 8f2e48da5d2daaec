use Rattle.std.proofs.Common.{◌≡◌, ℕ, ◌≤◌, All, AllPairs, List, length, sym, subst}
use Rattle.hs_lattice.specs.Laws.Outcomes.{more-from, whole-from_four}
use Rattle.partition.specs.Order.{Before}
use Rattle.partition.specs.Partition.{IsPartition}
use Rattle.io_pairs.specs.Inner.RightSides.{AreRights, HaveRights}
use Rattle.io_pairs.specs.Inner.Families.{functions_of}
use Rattle.io_pairs.proofs.Listed.{listed, evident, unevident}
use Rattle.io_pairs.proofs.listing.right_sides.Goals as goal

pub join_closure-requires-clause-world : goal.join_closure-requires-clause-world
join_closure-requires-clause-world c = c.requires.family.some_values

pub join_closure-requires-clause-generators : goal.join_closure-requires-clause-generators
join_closure-requires-clause-generators c k d within =
    let family = c.args.family.now in
    let rights = subst (AreRights family.members family.values (functions_of family)) (sym c.as_slice.ensures.value) c.in_ok-found.ensures.found in
    (rights k d within).right.lawful

pub returns-clause-whole : goal.returns-clause-whole
returns-clause-whole c =
    let family = c.args.family.now in
    let found = c.as_slice.result.now in
    let same : found ≡ c.in_ok-found.found.items = c.as_slice.ensures.value in
    let rights = subst (AreRights family.members family.values (functions_of family)) (sym same) c.in_ok-found.ensures.found in
    let rises : AllPairs Before found = subst (AllPairs Before) (sym same) c.in_ok-found.ensures.ascending in
    whole-from_four c.join_closure.result _ _ (λ (_ : List (List ℕ)). AllPairs Before found → length found ≤ c.args.limit) (λ (items : List (List ℕ)). All (IsPartition family.values) items) _
    (λ items lists joins few fit. listed family.members family.values (functions_of family) c.requires.family found rights
    (subst (HaveRights family.values (functions_of family) family.members) (sym same) (c.in_ok-found.ensures.each (subst (λ (xs : List (List ℕ)). length xs ≤ c.args.limit) same (few rises)))) items lists joins)
    c.join_closure.ensures.whole c.join_closure.ensures.joined c.join_closure.ensures.few c.join_closure.ensures.fit

pub returns-clause-no_more : goal.returns-clause-no_more
returns-clause-no_more c =
    let family = c.args.family.now in
    let found = c.as_slice.result.now in
    let same : found ≡ c.in_ok-found.found.items = c.as_slice.ensures.value in
    let rights = subst (AreRights family.members family.values (functions_of family)) (sym same) c.in_ok-found.ensures.found in
    let rises : AllPairs Before found = subst (AllPairs Before) (sym same) c.in_ok-found.ensures.ascending in
    whole-from_four c.join_closure.result _ _ (λ (_ : List (List ℕ)). AllPairs Before found → length found ≤ c.args.limit) (λ (items : List (List ℕ)). All (IsPartition family.values) items) _
    (λ items none joins few fit. unevident family.members family.values (functions_of family) c.requires.family found rights
    (subst (HaveRights family.values (functions_of family) family.members) (sym same) (c.in_ok-found.ensures.each (subst (λ (xs : List (List ℕ)). length xs ≤ c.args.limit) same (few rises)))) c.args.limit none joins)
    c.join_closure.ensures.no_more c.join_closure.ensures.joined c.join_closure.ensures.few c.join_closure.ensures.fit

pub returns-clause-more : goal.returns-clause-more
returns-clause-more c =
    let family = c.args.family.now in
    let found = c.as_slice.result.now in
    let rights = subst (AreRights family.members family.values (functions_of family)) (sym c.as_slice.ensures.value) c.in_ok-found.ensures.found in
    more-from c.join_closure.result _ _
    (λ items evidence. evident family.members family.values (functions_of family) c.requires.family found rights c.args.limit items evidence)
    c.join_closure.ensures.more
