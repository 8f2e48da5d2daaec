use Rattle.std.proofs.Common.{◌≡◌, ℕ, ◌<◌, ◌≤◌, All, AllPairs, List, get_or, length, sym, subst}
use Rattle.hs_lattice.specs.Laws.Outcomes.{whole-from_four, more-from}
use Rattle.hs_lattice.specs.JoinWorld.{HaveJoins}
use Rattle.kiss_file.specs.declared.file.KissFile.{KissFile}
use Rattle.machine_table.specs.NextStates.{NeverLeaves}
use Rattle.partition.specs.Order.{Before}
use Rattle.partition.specs.MeetAndJoin.{IsJoin}
use Rattle.partition.specs.Partition.{IsPartition, Together}
use Rattle.partition.specs.Laws.Generating.{IsZeroOf}
use Rattle.closed_lattice.specs.ClosedPartitions.{HasPrincipal, IsPrincipalWithin}
use Rattle.closed_lattice.specs.Laws.Generating.{IsMade, states_counted}
use Rattle.closed_lattice.specs.Laws.Listed.{listed, evident, unevident}
use Rattle.state_reduce.specs.AlikeStates.{IsEquivalence}
use Rattle.output_consistent.specs.Outputs.{IsClosedAndConsistent}
use Rattle.output_consistent.proofs.Listed.{consistent_made, made_consistent, principals_consistent}
use Rattle.output_consistent.proofs.listing.all.Goals as goal

module _ (F : KissFile) (n : ℕ) (size : n ≡ length F.states) (inside : NeverLeaves F) (some : 0 < n) (few : n ≤ 256) (alike : List ℕ) (equivalence : IsEquivalence F alike)
    (found generators : List (List ℕ)) (same : generators ≡ found) (members : All (IsPrincipalWithin F alike) found) where
  are_consistent : (p : List ℕ) → IsMade F generators p → IsClosedAndConsistent F p
  are_consistent p made =
      made_consistent F generators p inside (states_counted F n size some few) (principals_consistent F alike generators inside equivalence (subst (All (IsPrincipalWithin F alike)) (sym same) members)) made

  are_made : ((s t : ℕ) → s < t → Together alike s t → HasPrincipal F found s t) → HaveJoins (IsZeroOf (length F.states)) IsJoin generators → (p : List ℕ) → IsClosedAndConsistent F p → IsMade F generators p
  are_made each joins p is = consistent_made F alike generators equivalence (states_counted F n size some few) (rw same each) joins p is

pub join_closure-requires-clause-generators : goal.join_closure-requires-clause-generators
join_closure-requires-clause-generators c k d within =
    let F = c.args.m.now in
    let all : All (IsClosedAndConsistent F) c.as_slice.result.now =
    rw c.as_slice.ensures.value (principals_consistent F c.in_ok-alike.alike c.in_ok-found.found.items c.states.ensures.inside c.in_ok-alike.ensures c.in_ok-found.ensures.members) in
    subst (λ (n : ℕ). IsPartition n (get_or c.as_slice.result.now k d)) (sym c.states.ensures.count) (all k d within).0.0

pub returns-clause-whole : goal.returns-clause-whole
returns-clause-whole c =
    let F = c.args.m.now in
    let n = c.states.ensures in
    let found = c.in_ok-found.found.items in
    let generators = c.as_slice.result.now in
    let same : generators ≡ found = c.as_slice.ensures.value in
    let rises : AllPairs Before generators = subst (AllPairs Before) (sym same) c.in_ok-found.ensures.ascending in
    whole-from_four c.join_closure.result _ _ (λ (_ : List (List ℕ)). AllPairs Before generators → length generators ≤ c.args.limit) (λ (items : List (List ℕ)). All (IsPartition c.states.result) items) _
    (λ items lists joins few fit. listed F c.states.result n.count generators (IsClosedAndConsistent F)
    (are_consistent F c.states.result n.count n.inside n.some n.limit c.in_ok-alike.alike c.in_ok-alike.ensures found generators same c.in_ok-found.ensures.members)
    (are_made F c.states.result n.count n.inside n.some n.limit c.in_ok-alike.alike c.in_ok-alike.ensures found generators same c.in_ok-found.ensures.members
    (c.in_ok-found.ensures.each (subst (λ (xs : List (List ℕ)). length xs ≤ c.args.limit) same (few rises)))) items lists joins)
    c.join_closure.ensures.whole c.join_closure.ensures.joined c.join_closure.ensures.few c.join_closure.ensures.fit

pub returns-clause-no_more : goal.returns-clause-no_more
returns-clause-no_more c =
    let F = c.args.m.now in
    let n = c.states.ensures in
    let found = c.in_ok-found.found.items in
    let generators = c.as_slice.result.now in
    let same : generators ≡ found = c.as_slice.ensures.value in
    let rises : AllPairs Before generators = subst (AllPairs Before) (sym same) c.in_ok-found.ensures.ascending in
    whole-from_four c.join_closure.result _ _ (λ (_ : List (List ℕ)). AllPairs Before generators → length generators ≤ c.args.limit) (λ (items : List (List ℕ)). All (IsPartition c.states.result) items) _
    (λ items none joins few fit. unevident F c.states.result n.count generators (IsClosedAndConsistent F)
    (are_consistent F c.states.result n.count n.inside n.some n.limit c.in_ok-alike.alike c.in_ok-alike.ensures found generators same c.in_ok-found.ensures.members)
    (are_made F c.states.result n.count n.inside n.some n.limit c.in_ok-alike.alike c.in_ok-alike.ensures found generators same c.in_ok-found.ensures.members
    (c.in_ok-found.ensures.each (subst (λ (xs : List (List ℕ)). length xs ≤ c.args.limit) same (few rises)))) c.args.limit none joins)
    c.join_closure.ensures.no_more c.join_closure.ensures.joined c.join_closure.ensures.few c.join_closure.ensures.fit

pub returns-clause-more : goal.returns-clause-more
returns-clause-more c =
    let F = c.args.m.now in
    let n = c.states.ensures in
    let found = c.in_ok-found.found.items in
    let generators = c.as_slice.result.now in
    let same : generators ≡ found = c.as_slice.ensures.value in
    more-from c.join_closure.result _ _
    (λ items evidence. evident F c.states.result n.count generators (IsClosedAndConsistent F)
    (are_consistent F c.states.result n.count n.inside n.some n.limit c.in_ok-alike.alike c.in_ok-alike.ensures found generators same c.in_ok-found.ensures.members) c.args.limit items evidence)
    c.join_closure.ensures.more
