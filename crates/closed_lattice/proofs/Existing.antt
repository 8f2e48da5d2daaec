-- Joins and least closed partitions stand, whether they are made or not.
use Rattle.std.proofs.Common.{◌≡◌, ℕ, zero, suc, ◌<◌, ◌≤◌, ◌^◌, ◌⊎◌, inl, inr, Contains, List, [], ◌∷◌, ◌++◌, map, length, get_or, refl, sym, ap, ◌∙◌, subst, arith}
use Rattle.std.specs.List.{range_with_len}
use Rattle.std.proofs.lemmas.Bool.{cases_eq}
use Rattle.std.proofs.lemmas.List.FromFn.{get_or-map-range_with_len, length-map-range_with_len}
use Rattle.std.proofs.lemmas.List.Elements.{Contains-append_cases, Contains-append_right, Contains-push_cases}
use Rattle.cubes.specs.Symbol.{symbol_of}
use Rattle.kiss_file.specs.declared.file.KissFile.{KissFile}
use Rattle.kiss_file.specs.Machine.{next}
use Rattle.machine_table.specs.Pieces.{IsImage}
use Rattle.machine_table.specs.NextStates.{NeverLeaves}
use Rattle.partition.specs.Partition.{blocks_of, IsPartition, IsStateCount, Together, Le, zero_of}
use Rattle.partition.specs.NestedBlocks.{least_of}
use Rattle.partition.specs.MeetAndJoin.{Chain, IsJoin}
use Rattle.partition.specs.Laws.Chains.{chain_keeps, chain_link, chain_on, chain_within, together_turned}
use Rattle.partition.specs.Laws.Extremes.{zero_of_is_partition, zero_of_is_zero}
use Rattle.partition.specs.Laws.Labels.{IsPartition-of, label-lt-blocks_of}
use Rattle.partition.specs.Laws.Merging.{merged_above, merged_held}
use Rattle.partition.specs.Laws.Least.{least_of-le, least_of-same, least_holds}
use Rattle.closed_lattice.specs.ClosedPartitions.{IsPrincipal}
use Rattle.closed_lattice.specs.Inner.WaitingPairs.{AreStates, AreTogether, TakesApart}
use Rattle.partition.specs.Laws.Blocks.{fewer_blocks}
use Rattle.closed_lattice.proofs.Growing.{IsGrowing, growing_begun, growing_ended, growing_merged}
use Rattle.partition.specs.Laws.Holds.{merged_stands}
use Rattle.closed_lattice.proofs.Waiting.{adds_images}

-- p joined with the first k states' blocks of g
record IsJoining (n : ℕ) (p g : List ℕ) (k : ℕ) (r : List ℕ) : Type 0 where
  lawful : IsPartition n r
  above : Le p r
  chained : (s t : ℕ) → Together r s t → Chain p g s t
  tied : (u : ℕ) → u < k → Together r (least_of g u) u

module _ (n : ℕ) (p g : List ℕ) (p_lawful : IsPartition n p) (g_lawful : IsPartition n g) where
  joining : (k : ℕ) → k ≤ n → (r : List ℕ) × IsJoining n p g k r
  joining zero within = (p, record { lawful = p_lawful; above = λ s t held. held; chained = λ s t held. chain_link p g s t held.0 (inl held); tied = λ u below. absurd (omega arith) })
  joining (suc k) within =
      let so_far = joining k (omega arith) in
      let q = so_far.0 in
      let is = so_far.1 in
      let in_k : k < length g = omega (arith, g_lawful.length) in
      let s : ℕ = least_of g k in
      let low : s ≤ k = least_of-le g k k refl in
      let held : Together g s k = (omega arith, in_k, least_holds g k in_k) in
      let long : length q ≡ n = is.lawful.length in
      let merged = merged_stands q s k (IsPartition-of (sym long) is.lawful) (omega arith) (omega arith) in (
        merged.0,
        record {
          lawful = IsPartition-of long merged.1.lawful;
          above = λ u v both. merged_above q merged.0 s k merged.1 u v (is.above u v both);
          chained = λ u v both. elim ((merged.1.together u v).0 both) [
            | inl old ↦ is.chained u v old
            | inr (inl (front, back)) ↦ chain_on p g u s v (is.chained u s front) (chain_on p g s k v (chain_link p g s k (omega (arith, p_lawful.length)) (inr held)) (is.chained k v back))
            | inr (inr (front, back)) ↦ chain_on p g u k v (is.chained u k front) (chain_on p g k s v (chain_link p g k s (omega (arith, p_lawful.length)) (inr (together_turned g s k held))) (is.chained s v back))
          ];
          tied = λ u below. elim (cases_eq u k) [
            | inl at ↦ subst (λ (w : ℕ). Together merged.0 (least_of g w) w) (sym at) (merged_held q merged.0 s k (omega arith) (omega arith) merged.1)
            | inr other ↦ merged_above q merged.0 s k merged.1 (least_of g u) u (is.tied u (omega arith))
          ];
        },
      )

  pub join_stands : (r : List ℕ) × IsJoin p g r
  join_stands =
      let all = joining n (omega arith) in
      let r = all.0 in
      let is = all.1 in (
        r,
        record {
          lawful = IsPartition-of (sym p_lawful.length) is.lawful;
          together = λ s t. (
            (λ held. is.chained s t held),
            (λ chain. (
              omega (arith, chain.0, p_lawful.length, is.lawful.length),
              omega (arith, chain_within p g s t (g_lawful.length ∙ sym p_lawful.length) chain, p_lawful.length, is.lawful.length),
              chain_keeps p g (λ u. get_or r u 0) (λ u v held. (is.above u v held).2) (λ u v held. in_block is u v held) s t chain,
            )),
          );
        },
      )
    where
      in_block : {r : List ℕ} → IsJoining n p g n r → (u v : ℕ) → Together g u v → get_or r u 0 ≡ get_or r v 0
      in_block {r} is u v held =
          sym (is.tied u (omega (arith, held.0, g_lawful.length))).2
          ∙ ap (λ (w : ℕ). get_or r w 0) (least_of-same g u v held.2)
          ∙ (is.tied v (omega (arith, held.1, g_lawful.length))).2

-- some pair is apart, or none is
apart_or_not : (p : List ℕ) (pairs : List (ℕ × ℕ)) → AreStates (length p) pairs → AreTogether p pairs ⊎ ((u : ℕ) × (v : ℕ) × Contains {X = ℕ × ℕ} pairs (u, v) × (Together p u v → ⊥))
apart_or_not p [] states = inl (λ u v among. absurd (omega (arith, among.1)))
apart_or_not p ((s, t) ∷ pairs) states =
    elim (apart_or_not p pairs (λ u v among. states u v (Contains-append_right {X = ℕ × ℕ} ((s, t) ∷ []) pairs (u, v) among))) [
      | inr (u, v, among, apart) ↦ inr (u, v, Contains-append_right {X = ℕ × ℕ} ((s, t) ∷ []) pairs (u, v) among, apart)
      | inl together ↦ elim (cases_eq (get_or p s 0) (get_or p t 0)) [
        | inr two ↦ inr (s, t, (0, omega arith, refl), (λ held. two held.2))
        | inl same ↦ inl (λ u v among. elim (Contains-append_cases {X = ℕ × ℕ} ((s, t) ∷ []) pairs (u, v) among) [
          | inr tail ↦ together u v tail
          | inl head ↦ elim (Contains-push_cases {X = ℕ × ℕ} [] (s, t) (u, v) head) [
            | inl none ↦ absurd (omega (arith, none.1))
            | inr at ↦
                let inside = states s t (0, omega arith, refl) in
                subst (λ (pair : ℕ × ℕ). Together p pair.0 pair.1) at (inside.0, inside.1, same)
          ]
        ])
      ]
    ]

-- the pairs of next states of two states
abbrev images_of : KissFile → (s t : ℕ) → List (ℕ × ℕ)
images_of F s t = map (λ x. (next F s (symbol_of F.inputs x), next F t (symbol_of F.inputs x))) (range_with_len 0 (2 ^ F.inputs))

images_stand : (F : KissFile) (s t u v : ℕ) → (Contains {X = ℕ × ℕ} (images_of F s t) (u, v) → IsImage F s t u v) × (IsImage F s t u v → Contains {X = ℕ × ℕ} (images_of F s t) (u, v))
images_stand F s t u v = (
  (λ (k, within, read).
      let few : k < 2 ^ F.inputs = omega (arith, within, length-map-range_with_len image 0 (2 ^ F.inputs)) in
      let is : image k ≡ (u, v) = sym (get_or-map-range_with_len image 0 (2 ^ F.inputs) k k (u, v) few (omega arith)) ∙ read in
      (k, few, ap (λ (pair : ℕ × ℕ). pair.0) is, ap (λ (pair : ℕ × ℕ). pair.1) is)),
  (λ (x, below, to_u, to_v). (
    x,
    omega (arith, below, length-map-range_with_len image 0 (2 ^ F.inputs)),
    get_or-map-range_with_len image 0 (2 ^ F.inputs) x x (u, v) below (omega arith) ∙ ap (λ (w : ℕ). (w, next F t (symbol_of F.inputs x))) to_u ∙ ap (λ (w : ℕ). (u, w)) to_v,
  )),
)
  where
    image : ℕ → ℕ × ℕ
    image x = (next F s (symbol_of F.inputs x), next F t (symbol_of F.inputs x))

-- pairs that are apart are put together, one after another, until none is
closing_stands : (F : KissFile) (s t : ℕ) → NeverLeaves F → (count : ℕ) (p : List ℕ) (waiting : List (ℕ × ℕ)) → blocks_of p ≤ count → IsGrowing F s t p waiting → (r : List ℕ) × IsPrincipal F s t r
closing_stands F s t inside zero p waiting few growing =
    absurd (omega (arith, few, label-lt-blocks_of p 0 (omega (arith, growing.lawful.length, growing.lawful.count.0))))
closing_stands F s t inside (suc count) p waiting few growing =
    elim (apart_or_not p waiting (subst (λ (n : ℕ). AreStates n waiting) (sym growing.lawful.length) growing.states)) [
      | inl together ↦ (p, growing_ended F s t p waiting growing together)
      | inr (u, v, among, apart) ↦
          let states = growing.states u v among in
          let long = growing.lawful.length in
          let in_u : u < length p = omega (arith, states.0, long) in
          let in_v : v < length p = omega (arith, states.1, long) in
          let merged = merged_stands p u v (IsPartition-of (sym long) growing.lawful) in_u in_v in
          let takes : TakesApart p waiting u v waiting = record { among = among; apart = apart; kept = λ a b here. here; taken = λ a b here. inl here } in
          let fewer = fewer_blocks p merged.0 growing.lawful.numbered merged.1.lawful.numbered merged.1.lawful.length (merged_above p merged.0 u v merged.1) u v in_u in_v apart (merged_held p merged.0 u v in_u in_v merged.1) in
          closing_stands F s t inside count merged.0 (waiting ++ images_of F u v) (omega (arith, few, fewer))
          (growing_merged F s t p waiting u v waiting merged.0 (waiting ++ images_of F u v) inside growing takes merged.1 (adds_images F u v waiting (images_of F u v) (λ a b. images_stand F u v a b)))
    ]

-- each two states have a least closed partition that holds them together
pub principal_stands : (F : KissFile) (s t : ℕ) → NeverLeaves F → IsStateCount (length F.states) → s < length F.states → t < length F.states → (p : List ℕ) × IsPrincipal F s t p
principal_stands F s t inside count in_s in_t =
    let zero' : List ℕ = zero_of (length F.states) in
    closing_stands F s t inside (blocks_of zero') zero' ((s, t) ∷ []) (omega arith)
    (growing_begun F s t zero' inside (zero_of_is_partition (length F.states) count) (zero_of_is_zero (length F.states)) in_s in_t)
