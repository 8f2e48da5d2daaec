use Rattle.std.proofs.Common.{◌≡◌, ℕ, ◌<◌, ◌≤◌, inl, inr, All, AllPairs, List, length, get_or, sym, ◌∙◌, subst, arith}
use Rattle.std.proofs.lemmas.Bool.{cases_eq, false≢true}
use Rattle.std.proofs.lemmas.List.Elements.{at_read}
use Rattle.partition.specs.Partition.{IsPartition}
use Rattle.partition.specs.Order.{Before}
use Rattle.partition.specs.Laws.World.{before_chains, before_decides}
use Rattle.parallel_split.proofs.ordering.place_for.Goals as goal

module _ (p : List ℕ) (found : List (List ℕ)) (lawful : IsPartition (length p) p) (fit : All (IsPartition (length p)) found) (ascending : AllPairs Before found) (new : All (λ q. q ≡ p → ⊥) found) where
  -- what does not come after p comes before it
  earlier : (place : ℕ) → place ≤ length found → ((k : ℕ) (d : List ℕ) → k < place → k < length found → Before p (get_or found k d) → ⊥) → (k : ℕ) (d : List ℕ) → k < place → Before (get_or found k d) p
  earlier place within not_after k d below =
      elim (before_decides (length p) (get_or found k d) p (fit k d (omega arith)) lawful) [
        | inl before ↦ before
        | inr (inl same) ↦ absurd (new k d (omega arith) same)
        | inr (inr after) ↦ absurd (not_after k d below (omega arith) after)
      ]

  -- and what stands after one that comes after p does too
  later : (place : ℕ) → place < length found → ((d : List ℕ) → Before p (get_or found place d)) → (k : ℕ) (d : List ℕ) → place ≤ k → k < length found → Before p (get_or found k d)
  later place within here k d from inside =
      elim (cases_eq place k) [
        | inl at ↦ subst (λ (i : ℕ). Before p (get_or found i d)) at (here d)
        | inr other ↦ before_chains (length p) p (get_or found place d) (get_or found k d) lawful (fit place d within) (here d) (ascending place k d (omega arith) inside)
      ]

pub loop-place-init : goal.loop-place-init
loop-place-init c k d below = absurd (omega arith)

pub returns-then-before : goal.returns-then-before
returns-then-before c =
    let found = c.args.found.now in
    record {
      within = omega (arith, c.loop-place-test.true);
      below = earlier c.args.p.now found c.requires.lawful c.requires.found c.requires.ascending c.requires.new c.loop-place.place (omega (arith, c.loop-place-test.true)) c.loop-place.invariant;
      above = later c.args.p.now found c.requires.lawful c.requires.found c.requires.ascending c.requires.new c.loop-place.place c.loop-place-test.true
          (at_read found (λ q. Before c.args.p.now q) c.loop-place.place c.index-found-place.result c.loop-place-test.true c.index-found-place.is (c.before-in-loop-place.ensures.0 c.if-before.true));
    }

pub loop-place-preserved : goal.loop-place-preserved
loop-place-preserved c k d below within =
    elim (cases_eq k c.loop-place.place) [
      | inl at ↦
          subst (λ (i : ℕ). Before c.args.p.now (get_or c.args.found.now i d) → ⊥) (sym at)
          (at_read c.args.found.now (λ q. Before c.args.p.now q → ⊥) c.loop-place.place c.index-found-place.result c.loop-place-test.true c.index-found-place.is
          (λ before. false≢true (sym c.if-before.false ∙ c.before-in-loop-place.ensures.1 before)) d)
      | inr other ↦ c.loop-place.invariant k d (omega arith) within
    ]

pub returns : goal.returns
returns c =
    let found = c.args.found.now in
    record {
      within = omega arith;
      below = earlier c.args.p.now found c.requires.lawful c.requires.found c.requires.ascending c.requires.new (length found) (omega arith) (λ k d below within. c.loop-place.invariant k d (omega (arith, c.loop-place-test.false)) within);
      above = λ k d from inside. absurd (omega arith);
    }
