use Rattle.std.proofs.Common.{All, AllPairs, ℕ, List, ◌≡◌, ◌<◌, ◌≤◌, length, sym, ◌∙◌, subst}
use Rattle.hs_lattice.specs.Laws.Outcomes.{whole-from_four, more-from}
use Rattle.hs_lattice.specs.JoinWorld.{HaveJoins}
use Rattle.kiss_file.specs.declared.file.KissFile.{KissFile}
use Rattle.machine_table.specs.NextStates.{NeverLeaves}
use Rattle.partition.specs.Order.{Before}
use Rattle.partition.specs.MeetAndJoin.{IsJoin}
use Rattle.partition.specs.Partition.{IsPartition}
use Rattle.partition.specs.Laws.Generating.{IsZeroOf}
use Rattle.closed_lattice.specs.ClosedPartitions.{IsClosedPartition}
use Rattle.closed_lattice.specs.Inner.Generators.{AreGenerators}
use Rattle.closed_lattice.specs.Laws.Generating.{IsMade, closed_made, made_closed, states_counted}
use Rattle.closed_lattice.specs.Laws.Listed.{listed, evident, unevident}
use Rattle.closed_lattice.proofs.listing.joins_of.Goals as goal

module _ (F : KissFile) (n : ℕ) (size : n ≡ length F.states) (inside : NeverLeaves F) (some : 0 < n) (few : n ≤ 256) (found generators : List (List ℕ)) (same : generators ≡ found) where
  made_are : All (IsClosedPartition F) found → (p : List ℕ) → IsMade F generators p → IsClosedPartition F p
  made_are closed p made = made_closed F generators p inside (states_counted F n size some few) (subst (All (IsClosedPartition F)) (sym same) closed) made

  are_made : AreGenerators F found → HaveJoins (IsZeroOf (length F.states)) IsJoin generators → (p : List ℕ) → IsClosedPartition F p → IsMade F generators p
  are_made are joins p is = closed_made F generators (rw same are.each) p is (states_counted F n size some few) joins

pub returns-clause-whole : goal.returns-clause-whole
returns-clause-whole c =
    let F = c.args.m.now in
    let n = c.states.ensures in
    let found = c.args.found.now in
    let rows = c.as_slice.result.now in
    let same : rows ≡ found = c.as_slice.ensures.value ∙ c.in_ok-generators.ensures in
    let rises : AllPairs Before rows = subst (AllPairs Before) (sym same) c.requires.ascending in
    whole-from_four c.join_closure.result _ _ (λ (_ : List (List ℕ)). AllPairs Before rows → length rows ≤ c.args.limit) (λ (items : List (List ℕ)). All (IsPartition c.states.result) items) _
    (λ items lists joins few fit. listed F c.states.result n.count rows (IsClosedPartition F)
    (made_are F c.states.result n.count n.inside n.some n.limit found rows same c.requires.closed)
    (are_made F c.states.result n.count n.inside n.some n.limit found rows same (c.requires.all (subst (λ (xs : List (List ℕ)). length xs ≤ c.args.limit) same (few rises)))) items lists joins)
    c.join_closure.ensures.whole c.join_closure.ensures.joined c.join_closure.ensures.few c.join_closure.ensures.fit

pub returns-clause-no_more : goal.returns-clause-no_more
returns-clause-no_more c =
    let F = c.args.m.now in
    let n = c.states.ensures in
    let found = c.args.found.now in
    let rows = c.as_slice.result.now in
    let same : rows ≡ found = c.as_slice.ensures.value ∙ c.in_ok-generators.ensures in
    let rises : AllPairs Before rows = subst (AllPairs Before) (sym same) c.requires.ascending in
    whole-from_four c.join_closure.result _ _ (λ (_ : List (List ℕ)). AllPairs Before rows → length rows ≤ c.args.limit) (λ (items : List (List ℕ)). All (IsPartition c.states.result) items) _
    (λ items none joins few fit. unevident F c.states.result n.count rows (IsClosedPartition F)
    (made_are F c.states.result n.count n.inside n.some n.limit found rows same c.requires.closed)
    (are_made F c.states.result n.count n.inside n.some n.limit found rows same (c.requires.all (subst (λ (xs : List (List ℕ)). length xs ≤ c.args.limit) same (few rises)))) c.args.limit none joins)
    c.join_closure.ensures.no_more c.join_closure.ensures.joined c.join_closure.ensures.few c.join_closure.ensures.fit

pub returns-clause-more : goal.returns-clause-more
returns-clause-more c =
    let F = c.args.m.now in
    let n = c.states.ensures in
    let found = c.args.found.now in
    let rows = c.as_slice.result.now in
    let same : rows ≡ found = c.as_slice.ensures.value ∙ c.in_ok-generators.ensures in
    more-from c.join_closure.result _ _
    (λ items evidence. evident F c.states.result n.count rows (IsClosedPartition F)
    (made_are F c.states.result n.count n.inside n.some n.limit found rows same c.requires.closed) c.args.limit items evidence)
    c.join_closure.ensures.more
