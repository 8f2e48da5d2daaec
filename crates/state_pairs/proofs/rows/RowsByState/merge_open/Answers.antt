use Rattle.std.proofs.Common.{ℕ, ◌↔◌, List, ◌∙◌, sym, subst, arith}
use Rattle.partition.specs.Laws.Labels.{IsPartition-of}
use Rattle.state_pairs.specs.AddedPairs.{AddsPairs, IsListedPair, IsOpenImage}
use Rattle.state_pairs.specs.SeenPairs.{AreStates}
use Rattle.state_pairs.specs.Laws.AddedPairs.{listed_alone}
use Rattle.state_pairs.specs.Laws.MergedPairs.{merges_as, merges_none, merges_rest}
use Rattle.state_pairs.proofs.rows.RowsByState.merge_open.Goals.{After-as_slice}
use Rattle.state_pairs.proofs.rows.RowsByState.merge_open.Goals as goal

pub returns-then-blocks-eq1 : goal.returns-then-blocks-eq1
returns-then-blocks-eq1 c =
    let q = c.args.part.now in
    let Open = IsOpenImage c.args.self.now c.args.s c.args.t in
    merges_rest (λ u v. ⊥) Open q q (sym c.blocks-2.ensures ∙ c.if-blocks-eq1.true) (λ u v none. absurd none)
    (subst (λ (n : ℕ). AreStates n Open) (sym c.requires.lawful.length) c.requires.inside)
    (merges_none (λ u v. ⊥) q (IsPartition-of (sym c.requires.lawful.length) c.requires.lawful) (λ u v none. none))

listed : (c : After-as_slice) → (u v : ℕ) → IsListedPair c.as_slice.result.now u v ↔ IsOpenImage c.args.self.now c.args.s c.args.t u v
listed c =
    let Open = IsOpenImage c.args.self.now c.args.s c.args.t in
    let pairs = c.add_open.new.pairs.pairs in
    subst (λ (list : List (ℕ × ℕ)). (u v : ℕ) → IsListedPair list u v ↔ Open u v) (sym c.as_slice.ensures)
    (listed_alone Open pairs (subst (λ (list : List (ℕ × ℕ)). AddsPairs Open list pairs) c.in_ok-pairs.ensures.pairs c.in_ok-add_open.ensures.pairs))

pub merge_pairs-requires-clause-states : goal.merge_pairs-requires-clause-states
merge_pairs-requires-clause-states c u v among =
    let both = c.requires.inside u v ((listed (goal.at.merge_pairs-requires-clause-states c).After-as_slice u v).0 among) in
    let size = c.requires.lawful.length in
    (omega (arith, both.0, size), omega (arith, both.1, size))

pub returns : goal.returns
returns c =
    merges_as (IsListedPair c.as_slice.result.now) (IsOpenImage c.args.self.now c.args.s c.args.t) c.args.part.now c.merge_pairs.new.part
    (listed (goal.at.returns c).After-as_slice) c.merge_pairs.ensures
