-- Pairs of states that growth takes or passes over.
use Rattle.std.proofs.Common.{◌≡◌, ℕ, ◌+◌, ◌<◌, ◌≤◌, ◌⊎◌, inl, inr, List, length, get_or, refl, sym, ◌∙◌, subst, arith}
use Rattle.std.proofs.lemmas.Bool.{cases_eq}
use Rattle.kiss_file.specs.declared.file.KissFile.{KissFile}
use Rattle.machine_table.specs.NextStates.{NeverLeaves}
use Rattle.partition.specs.Partition.{IsPartition, Le, Lt, Together, blocks_of, zero_of}
use Rattle.partition.specs.MeetAndJoin.{IsJoin, IsMeet}
use Rattle.partition.specs.Laws.Chains.{chain_keeps, chain_link, chain_within, join_is_least, together_turned, together_on}
use Rattle.partition.specs.Laws.Extremes.{zero_of_is_partition}
use Rattle.partition.specs.Laws.Labels.{IsPartition-of}
use Rattle.pair_operators.specs.Growth.{TakesPair}
use Rattle.closed_lattice.specs.ClosedPartitions.{IsPrincipal}
use Rattle.closed_lattice.specs.Inner.Growth.{IsSettled, NeverHolds}
use Rattle.closed_lattice.specs.Limits.{HoldsApart, MeetInZero}
use Rattle.partition.specs.Laws.Blocks.{fewer_blocks, strictly_fewer, zero_blocks, zero_by_blocks}
use Rattle.closed_lattice.proofs.Conditions.{never_below_zero, zero_strictly_below}
use Rattle.closed_lattice.proofs.Existing.{join_stands, principal_stands}
use Rattle.closed_lattice.specs.Laws.Generating.{join_closed}

-- a join with what is below adds nothing
join_adds_nothing : (p g : List ℕ) → IsPartition (length p) p → length g ≡ length p → Le g p → IsJoin p g p
join_adds_nothing p g lawful size le = record {
  lawful = lawful;
  together = λ s t. (
    (λ held. chain_link p g s t held.0 (inl held)),
    (λ chain. (chain.0, chain_within p g s t size chain, chain_keeps p g (λ u. get_or p u 0) (λ u v held. held.2) (λ u v held. (le u v held).2) s t chain)),
  );
}

module _ (F : KissFile) (Meets : List ℕ → Type 0) (inside : NeverLeaves F) (p : List ℕ) (s t : ℕ) (in_s : s < length F.states) (in_t : t < length F.states) (settled : IsSettled F Meets p) where
  -- two states that are together
  pub pair_held : Together p s t → TakesPair (IsPrincipal F) Meets p s t p
  pair_held held =
      let g = principal_stands F s t inside settled.0.0.count in_s in_t in
      let size = settled.0.0.length in
      record {
        generator = g.0;
        generates = g.1;
        joined = p;
        joins = join_adds_nothing p g.0 (IsPartition-of (sym size) settled.0.0) (g.1.lawful.length ∙ sym size) (g.1.least p settled.0 held);
        taken = elim settled.1 [ inl met ↦ inl (met, refl) | inr refused ↦ inr (refused, refl) ];
      }

  -- two states that no greater partition which meets the condition holds together
  pub pair_refused : NeverHolds Meets p s t → TakesPair (IsPrincipal F) Meets p s t p
  pair_refused never =
      let g = principal_stands F s t inside settled.0.0.count in_s in_t in
      let r = join_stands (length F.states) p g.0 settled.0.0 g.1.lawful in
      let least = join_is_least p g.0 r.0 (g.1.lawful.length ∙ sym settled.0.0.length) r.1 in
      record {
        generator = g.0;
        generates = g.1;
        joined = r.0;
        joins = r.1;
        taken = inr ((λ met. never r.0 least.lawful least.left (least.right s t g.1.together) met), refl);
      }

-- what comes of a pair is closed, and it is settled whether it meets the condition
pub settled_taken : (F : KissFile) (Meets : List ℕ → Type 0) (p : List ℕ) (s t : ℕ) (next : List ℕ) → IsSettled F Meets p → TakesPair (IsPrincipal F) Meets p s t next → IsSettled F Meets next
settled_taken F Meets p s t next settled takes = elim takes.taken [
  | inl (met, same) ↦ subst (IsSettled F Meets) (sym same) (join_closed F p takes.generator takes.joined settled.0 (takes.generates.lawful, takes.generates.closed) takes.joins, inl met)
  | inr (refused, same) ↦ subst (IsSettled F Meets) (sym same) settled
]

-- a partition strictly below top holds no two states together that are apart in top
pub not_within_top : (top p : List ℕ) (s t : ℕ) → (Together top s t → ⊥) → NeverHolds (λ p. Lt p top) p s t
not_within_top top p s t apart q lawful above held (below, strict) = apart (below s t held)

-- and with one block more than top no partition grows
pub no_block_between : (top p : List ℕ) (s t : ℕ) → IsPartition (length p) p → IsPartition (length p) top → s < length p → t < length p → (Together p s t → ⊥) → blocks_of p ≤ blocks_of top + 1 → NeverHolds (λ p. Lt p top) p s t
no_block_between top p s t lawful top_lawful in_s in_t apart few q q_lawful above held (below, strict) =
    let fewer = fewer_blocks p q lawful.numbered q_lawful.numbered q_lawful.length above s t in_s in_t apart held in
    omega (arith, few, fewer, strictly_fewer (length p) q top q_lawful top_lawful below strict)

-- two states that are together in both partitions
pub not_in_zero : (other p : List ℕ) (s t : ℕ) → (Together p s t → ⊥) → s < length p → Together other s t → NeverHolds (MeetInZero other) p s t
not_in_zero other p s t apart within there q lawful above held meets =
    apart (subst (λ (u : ℕ). Together p s u) (meets s t held there) (within, within, refl))

-- two states whose blocks hold the two that are to stay apart
pub not_in_two_blocks : (a b : ℕ) (p : List ℕ) (s t : ℕ) → Together p a s → Together p t b → NeverHolds (HoldsApart a b) p s t
not_in_two_blocks a b p s t front back q lawful above held apart =
    apart (together_on q a s b (above a s front) (together_on q s t b held (above t b back)))

pub turned_in_two_blocks : (a b : ℕ) (p : List ℕ) (s t : ℕ) → Together p a t → Together p s b → NeverHolds (HoldsApart a b) p s t
turned_in_two_blocks a b p s t front back q lawful above held apart =
    apart (together_on q a t b (above a t front) (together_on q t s b (together_turned q s t held) (above s b back)))

-- two partitions meet in zero where their meet has a block for each state
pub meet_has_all : (p other r : List ℕ) → IsMeet p other r → (blocks_of r ≡ length p → MeetInZero other p) × (MeetInZero other p → blocks_of r ≡ length p)
meet_has_all p other r is = (
  (λ all s t here there. zero_by_blocks (length p) r is.lawful all s t ((is.together s t).1 (here, there))),
  (λ meets. zero_blocks (length p) r is.lawful (λ s t held. let both = (is.together s t).0 held in meets s t both.0 both.1)),
)

-- it is settled whether zero is strictly below a partition
pub below_settled : (n : ℕ) (top : List ℕ) → IsPartition n top → Lt (zero_of n) top ⊎ (Lt (zero_of n) top → ⊥)
below_settled n top lawful =
    let zero' = zero_of_is_partition n lawful.count in
    elim (cases_eq (blocks_of top) n) [
      | inl all ↦ inr (never_below_zero n top lawful.length (zero_by_blocks n top lawful all) (zero_of n) zero')
      | inr fewer ↦ inl (zero_strictly_below n top lawful.length zero' (λ zero. fewer (zero_blocks n top lawful zero)))
    ]
