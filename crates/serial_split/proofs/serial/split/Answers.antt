use Rattle.std.proofs.Common.{◌≡◌, ℕ, inl, inr, List, [], ◌∷◌, ◌++◌, length, refl, ap, sym, ◌∙◌, subst, arith}
use Rattle.std.proofs.lemmas.Bool.{false≢true}
use Rattle.kiss_file.specs.declared.file.KissFile.{KissFile}
use Rattle.partition.specs.Partition.{IsNontrivial, IsOne, IsPartition, IsStateCount, IsZero, Lt, blocks_of, zero_of}
use Rattle.partition.specs.Laws.Extremes.{zero_of_is_zero, zero_of_is_partition}
use Rattle.closed_lattice.specs.Limits.{IsGreatestGrown}
use Rattle.partition.specs.Laws.Blocks.{zero_blocks, zero_by_blocks}
use Rattle.state_codes.specs.declared.split.Part.{Part}
use Rattle.serial_split.specs.Choice.{partitions_of}
use Rattle.serial_split.specs.Kind.{HasNoneNontrivial}
use Rattle.serial_split.specs.Inner.Chain.{part_after}
use Rattle.serial_split.specs.Laws.Greatest.{greatest_nontrivial, none_above_zero, none_of_one_state, one_zero_or_not}
use Rattle.serial_split.proofs.Halves.{serial_best, serial_lawful, serial_parts}
use Rattle.serial_split.proofs.serial.split.Goals as goal

-- what is known of the growth below one
abbrev IsGreatest : KissFile → List ℕ → List ℕ → Type 0
IsGreatest F one first = IsGreatestGrown F (λ p. Lt p one) (zero_of (length F.states)) first

-- the two parts, pushed one after the other
two : (none some all : List Part) (one other : Part) (first second : List ℕ) → none ≡ [] → some ≡ none ++ one ∷ [] → all ≡ some ++ other ∷ [] → one ≡ part_after first 0 → other ≡ part_after second 1
    → all ≡ part_after first 0 ∷ part_after second 1 ∷ []
two none some all one other first second empty pushed pushed_too is_first is_second = rw (pushed_too, pushed, empty, is_first, is_second) refl

-- it is zero: nothing is nontrivial
none_here : (F : KissFile) (n : ℕ) (one first : List ℕ) → n ≡ length F.states → IsPartition n one → IsOne one
    → ((IsZero one → ⊥) → IsGreatest F one first) → blocks_of first ≡ n → HasNoneNontrivial F
none_here F n one first size lawful is greatest all =
    let top : IsPartition (length F.states) one = subst (λ (k : ℕ). IsPartition k one) size lawful in
    elim (one_zero_or_not (length F.states) one top is) [
      | inl zero ↦ none_of_one_state F one top is zero
      | inr other ↦ none_above_zero F one first top is (greatest other) (zero_by_blocks (length F.states) first (greatest other).closed.0 (all ∙ size))
    ]

-- it is not zero: nor is one
one_not_zero : (F : KissFile) (n : ℕ) (one first : List ℕ) → n ≡ length F.states → IsPartition n one
    → (IsZero one → first ≡ zero_of (length F.states)) → (blocks_of first ≡ n → ⊥) → IsZero one → ⊥
one_not_zero F n one first size lawful nothing fewer zero =
    let least : IsPartition (length F.states) (zero_of (length F.states)) = zero_of_is_partition (length F.states) (subst IsStateCount size lawful.count) in
    fewer (ap blocks_of (nothing zero) ∙ zero_blocks (length F.states) (zero_of (length F.states)) least (zero_of_is_zero (length F.states)) ∙ sym size)

pub returns-then-blocks-states-clause-none : goal.returns-then-blocks-states-clause-none
returns-then-blocks-states-clause-none c =
    ((λ _. none_here c.args.m.now c.states.result c.in_ok-one.one c.in_ok-first.first c.states.ensures.count c.in_ok-one.ensures.lawful c.in_ok-one.ensures.one c.in_ok-first.ensures.greatest (omega (arith, c.if-blocks-states.true, c.blocks-2.ensures, c.states-2.ensures.count, c.states.ensures.count))), (λ _. refl))

-- the greatest closed partition below one, where it is not zero
found : (F : KissFile) (n : ℕ) (one first : List ℕ) → n ≡ length F.states → IsPartition n one
    → (IsZero one → first ≡ zero_of (length F.states)) → ((IsZero one → ⊥) → IsGreatest F one first) → (blocks_of first ≡ n → ⊥) → IsGreatest F one first
found F n one first size lawful nothing greatest fewer = greatest (one_not_zero F n one first size lawful nothing fewer)

found_nontrivial : (F : KissFile) (n : ℕ) (one first : List ℕ) → n ≡ length F.states → IsPartition n one → IsOne one → IsGreatest F one first → (blocks_of first ≡ n → ⊥) → IsNontrivial first
found_nontrivial F n one first size lawful is greatest fewer =
    greatest_nontrivial F one first (subst (λ (k : ℕ). IsPartition k one) size lawful) is greatest (λ zero. fewer (zero_blocks (length F.states) first greatest.closed.0 zero ∙ sym size))

pub returns-clause-none : goal.returns-clause-none
returns-clause-none c =
    let F = c.args.m.now in
    let fewer : blocks_of c.in_ok-first.first ≡ c.states.result → ⊥ = λ all. omega (arith, c.if-blocks-states.false, c.blocks-2.ensures, c.states-2.ensures.count, c.states.ensures.count) in
    let greatest = found F c.states.result c.in_ok-one.one c.in_ok-first.first c.states.ensures.count c.in_ok-one.ensures.lawful c.in_ok-first.ensures.zero c.in_ok-first.ensures.greatest fewer in (
      (λ is. absurd (false≢true (sym is))),
      (λ none. absurd (none c.in_ok-first.first greatest.closed (found_nontrivial F c.states.result c.in_ok-one.one c.in_ok-first.first c.states.ensures.count c.in_ok-one.ensures.lawful c.in_ok-one.ensures.one greatest fewer))),
    )

pub returns-clause-serial : goal.returns-clause-serial
returns-clause-serial c =
    let F = c.args.m.now in
    let fewer : blocks_of c.in_ok-first.first ≡ c.states.result → ⊥ = λ all. omega (arith, c.if-blocks-states.false, c.blocks-2.ensures, c.states-2.ensures.count, c.states.ensures.count) in
    let greatest = found F c.states.result c.in_ok-one.one c.in_ok-first.first c.states.ensures.count c.in_ok-one.ensures.lawful c.in_ok-first.ensures.zero c.in_ok-first.ensures.greatest fewer in
    serial_parts F c.in_ok-first.first c.in_ok-second.second c.push-2.new.self
    (two c.new-parts.result c.push.new.self c.push-2.new.self _ _ c.in_ok-first.first c.in_ok-second.second c.new-parts.ensures c.in_ok-push.ensures.ok c.in_ok-push-2.ensures.ok c.in_ok-part_after.ensures c.in_ok-part_after-2.ensures)
    greatest.closed (found_nontrivial F c.states.result c.in_ok-one.one c.in_ok-first.first c.states.ensures.count c.in_ok-one.ensures.lawful c.in_ok-one.ensures.one greatest fewer)
    c.in_ok-second.ensures.inside c.in_ok-second.ensures.blocks

pub returns-clause-best : goal.returns-clause-best
returns-clause-best c =
    let F = c.args.m.now in
    let fewer : blocks_of c.in_ok-first.first ≡ c.states.result → ⊥ = λ all. omega (arith, c.if-blocks-states.false, c.blocks-2.ensures, c.states-2.ensures.count, c.states.ensures.count) in
    let greatest = found F c.states.result c.in_ok-one.one c.in_ok-first.first c.states.ensures.count c.in_ok-one.ensures.lawful c.in_ok-first.ensures.zero c.in_ok-first.ensures.greatest fewer in
    serial_best F c.in_ok-first.first c.in_ok-second.second c.push-2.new.self
    (two c.new-parts.result c.push.new.self c.push-2.new.self _ _ c.in_ok-first.first c.in_ok-second.second c.new-parts.ensures c.in_ok-push.ensures.ok c.in_ok-push-2.ensures.ok c.in_ok-part_after.ensures c.in_ok-part_after-2.ensures)
    c.in_ok-one.one (subst (λ (k : ℕ). IsPartition k c.in_ok-one.one) c.states.ensures.count c.in_ok-one.ensures.lawful) c.in_ok-one.ensures.one greatest

pub returns-clause-lawful : goal.returns-clause-lawful
returns-clause-lawful c =
    let F = c.args.m.now in
    let fewer : blocks_of c.in_ok-first.first ≡ c.states.result → ⊥ = λ all. omega (arith, c.if-blocks-states.false, c.blocks-2.ensures, c.states-2.ensures.count, c.states.ensures.count) in
    let greatest = found F c.states.result c.in_ok-one.one c.in_ok-first.first c.states.ensures.count c.in_ok-one.ensures.lawful c.in_ok-first.ensures.zero c.in_ok-first.ensures.greatest fewer in
    serial_lawful F c.in_ok-first.first c.in_ok-second.second c.push-2.new.self
    (two c.new-parts.result c.push.new.self c.push-2.new.self _ _ c.in_ok-first.first c.in_ok-second.second c.new-parts.ensures c.in_ok-push.ensures.ok c.in_ok-push-2.ensures.ok c.in_ok-part_after.ensures c.in_ok-part_after-2.ensures)
    greatest.closed.0 c.in_ok-second.ensures.inside

pub returns-clause-choice : goal.returns-clause-choice
returns-clause-choice c = record {
  one = c.in_ok-one.one;
  one_lawful = subst (λ (k : ℕ). IsPartition k c.in_ok-one.one) c.states.ensures.count c.in_ok-one.ensures.lawful;
  one_is = c.in_ok-one.ensures.one;
  first = c.in_ok-first.first;
  grown = c.in_ok-first.ensures.growth;
  second = c.in_ok-second.second;
  complement = c.in_ok-second.ensures.inside;
  partitions = ap partitions_of (two c.new-parts.result c.push.new.self c.push-2.new.self _ _ c.in_ok-first.first c.in_ok-second.second c.new-parts.ensures c.in_ok-push.ensures.ok c.in_ok-push-2.ensures.ok c.in_ok-part_after.ensures c.in_ok-part_after-2.ensures);
}

pub below-requires : goal.below-requires
below-requires c = c.in_ok-one.ensures.lawful.length ∙ c.states.ensures.count

pub returns-clause-kind : goal.returns-clause-kind
returns-clause-kind c = refl

pub returns-clause-few : goal.returns-clause-few
returns-clause-few c = omega (arith, ap length (two c.new-parts.result c.push.new.self c.push-2.new.self _ _ c.in_ok-first.first c.in_ok-second.second c.new-parts.ensures c.in_ok-push.ensures.ok c.in_ok-push-2.ensures.ok c.in_ok-part_after.ensures c.in_ok-part_after-2.ensures))

pub part_after-requires : goal.part_after-requires
part_after-requires c = omega arith

pub part_after-requires-2 : goal.part_after-requires-2
part_after-requires-2 c = omega arith
