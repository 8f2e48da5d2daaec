-- What is known while the least closed partition that holds two states together is made.
use Rattle.std.proofs.Common.{◌≡◌, ℕ, ◌<◌, ◌^◌, inl, inr, Bool, List, [], ◌∷◌, Contains, length, refl, sym, ap, ◌∙◌, subst, arith}
use Rattle.std.proofs.lemmas.List.Elements.{Contains-push_cases}
use Rattle.cubes.specs.Symbol.{number_of, symbol_of}
use Rattle.cubes.specs.Laws.Numbers.{number_below, symbol_of-number_of, length-symbol_of}
use Rattle.kiss_file.specs.declared.file.KissFile.{KissFile}
use Rattle.kiss_file.specs.Machine.{next}
use Rattle.machine_table.specs.Pieces.{IsImage}
use Rattle.machine_table.specs.NextStates.{NeverLeaves}
use Rattle.partition.specs.Partition.{IsPartition, IsOne, IsZero, Together, Le}
use Rattle.partition.specs.MergedBlocks.{IsMerged}
use Rattle.partition.specs.Laws.Merging.{merged_above, merged_held, merged_least}
use Rattle.partition.specs.Laws.Chains.{together_itself, together_on, together_turned}
use Rattle.pair_operators.specs.Pair.{Pair, Closed}
use Rattle.pair_operators.specs.Laws.Pairs.{one_pairs, zero_pairs}
use Rattle.closed_lattice.specs.ClosedPartitions.{IsClosedPartition, IsPrincipal}
use Rattle.closed_lattice.specs.Inner.WaitingPairs.{AreStates, AreTogether, TakesApart, AddsImages}

-- Each closed partition that holds s and t together is above the partition so far and holds together each pair
-- that waits; and each partition above it that does so makes a pair with it.
pub record IsGrowing (F : KissFile) (s t : ℕ) (p : List ℕ) (waiting : List (ℕ × ℕ)) : Type 0 where
  pub lawful : IsPartition (length F.states) p
  pub states : AreStates (length F.states) waiting
  pub below : (q : List ℕ) → IsClosedPartition F q → Together q s t → Le p q × AreTogether q waiting
  pub closing : (q : List ℕ) → IsPartition (length F.states) q → Le p q → AreTogether q waiting → Pair F p q × Together q s t

-- each symbol leads two states to an image of theirs
pub image_of_symbol : (F : KissFile) (s t : ℕ) (x : List Bool) → length x ≡ F.inputs → IsImage F s t (next F s x) (next F t x)
image_of_symbol F s t x width =
    let same : symbol_of F.inputs (number_of x) ≡ x = subst (λ (k : ℕ). symbol_of k (number_of x) ≡ x) width (symbol_of-number_of x) in
    (number_of x, subst (λ (k : ℕ). number_of x < 2 ^ k) width (number_below x), ap (next F s) same, ap (next F t) same)

-- images are states
pub image_inside : (F : KissFile) → NeverLeaves F → (s t u v : ℕ) → s < length F.states → t < length F.states → IsImage F s t u v → (u < length F.states) × (v < length F.states)
image_inside F inside s t u v in_s in_t (x, below, to_u, to_v) = (
  subst (λ (k : ℕ). k < length F.states) to_u (inside s (symbol_of F.inputs x) in_s (length-symbol_of F.inputs x)),
  subst (λ (k : ℕ). k < length F.states) to_v (inside t (symbol_of F.inputs x) in_t (length-symbol_of F.inputs x)),
)

-- and together where the partition is closed and holds the two states together
image_held : (F : KissFile) (q : List ℕ) (s t u v : ℕ) → Closed F q → Together q s t → IsImage F s t u v → Together q u v
image_held F q s t u v closed held (x, below, to_u, to_v) =
    subst (λ (k : ℕ). Together q u k) to_v (subst (λ (k : ℕ). Together q k (next F t (symbol_of F.inputs x))) to_u (closed s t (symbol_of F.inputs x) held (length-symbol_of F.inputs x)))

-- the least closed partition of two states that s and t go to is also that of s and t, if it holds them together
pub principal_back : (F : KissFile) (s t u v : ℕ) (p : List ℕ) → IsImage F s t u v → IsPrincipal F u v p → Together p s t → IsPrincipal F s t p
principal_back F s t u v p image ahead held = record {
  lawful = ahead.lawful;
  closed = ahead.closed;
  together = held;
  least = λ other is both. ahead.least other is (image_held F other s t u v is.1 both image);
}

-- at first nothing is together, and s and t wait
pub growing_begun : (F : KissFile) (s t : ℕ) (p : List ℕ) → NeverLeaves F → IsPartition (length F.states) p → IsZero p → s < length F.states → t < length F.states → IsGrowing F s t p ((s, t) ∷ [])
growing_begun F s t p inside lawful zero in_s in_t = record {
  lawful = lawful;
  states = λ u v among. let same = only s t u v among in (subst (λ (k : ℕ). k < length F.states) same.0 in_s, subst (λ (k : ℕ). k < length F.states) same.1 in_t);
  below = λ q closed held. (
    (λ u v together. subst (λ (k : ℕ). Together q u k) (zero u v together) (together_itself q u (omega (arith, together.0, lawful.length, closed.0.length)))),
    (λ u v among. let same = only s t u v among in subst (λ (k : ℕ). Together q u k) same.1 (subst (λ (k : ℕ). Together q k t) same.0 held)),
  );
  closing = λ q is_lawful le waiting. (
    zero_pairs F p q inside lawful is_lawful zero,
    waiting s t (0, omega arith, refl),
  );
}
  where
    only : (s t u v : ℕ) → Contains {X = ℕ × ℕ} ((s, t) ∷ []) (u, v) → (s ≡ u) × (t ≡ v)
    only s t u v among = elim (Contains-push_cases {X = ℕ × ℕ} [] (s, t) (u, v) among) [ inl none ↦ absurd (omega (arith, none.1)) | inr same ↦ (ap (λ (pair : ℕ × ℕ). pair.0) same, ap (λ (pair : ℕ × ℕ). pair.1) same) ]

-- s and t are merged, and their images wait too
pub growing_merged : (F : KissFile) (s t : ℕ) (p : List ℕ) (old : List (ℕ × ℕ)) (u v : ℕ) (rest : List (ℕ × ℕ)) (r : List ℕ) (waiting : List (ℕ × ℕ)) →
    NeverLeaves F → IsGrowing F s t p old → TakesApart p old u v rest → IsMerged p u v r → AddsImages F u v rest waiting → IsGrowing F s t r waiting
growing_merged F s t p old u v rest r waiting inside so_far takes merged adds = record {
  lawful = subst (λ (n : ℕ). IsPartition n r) so_far.lawful.length merged.lawful;
  states = λ a b among. elim (adds.only a b among) [
    | inl before ↦ so_far.states a b (takes.kept a b before)
    | inr image ↦ image_inside F inside u v a b in_states.0 in_states.1 image
  ];
  below = λ q closed held.
      let old_below = so_far.below q closed held in
      let pair = old_below.1 u v takes.among in (
        merged_least p r q u v merged old_below.0 pair,
        (λ a b among. elim (adds.only a b among) [
          | inl before ↦ old_below.1 a b (takes.kept a b before)
          | inr image ↦ image_held F q u v a b closed.1 pair image
        ]),
      );
  closing = λ q lawful le together.
      let le_old : Le p q = λ a b before. le a b (merged_above p r u v merged a b before) in
      let held : Together q u v = le u v (merged_held p r u v (omega (arith, in_states.0, so_far.lawful.length)) (omega (arith, in_states.1, so_far.lawful.length)) merged) in
      let all_old : AreTogether q old = λ a b among. elim (takes.taken a b among) [
        | inl left ↦ together a b (adds.kept a b left)
        | inr (inl (is_u, is_v)) ↦ subst (λ (k : ℕ). Together q a k) (sym is_v) (subst (λ (k : ℕ). Together q k v) (sym is_u) held)
        | inr (inr before) ↦ le_old a b before
      ] in
      let closing = so_far.closing q lawful le_old all_old in
      (pair_of_merged q le_old closing.0 (λ x width. together (next F u x) (next F v x) (adds.added (next F u x) (next F v x) (image_of_symbol F u v x width))), closing.1);
}
  where
    in_states : (u < length F.states) × (v < length F.states)
    in_states = so_far.states u v takes.among

    pair_of_merged : (q : List ℕ) → Le p q → Pair F p q → ((x : List Bool) → length x ≡ F.inputs → Together q (next F u x) (next F v x)) → Pair F r q
    pair_of_merged q le pair held a b x together width =
        elim ((merged.together a b).0 together) [
          | inl before ↦ pair a b x before width
          | inr (inl (one, two)) ↦ together_on q (next F a x) (next F u x) (next F b x) (pair a u x one width) (together_on q (next F u x) (next F v x) (next F b x) (held x width) (pair v b x two width))
          | inr (inr (one, two)) ↦ together_on q (next F a x) (next F v x) (next F b x) (pair a v x one width) (together_on q (next F v x) (next F u x) (next F b x) (together_turned q (next F u x) (next F v x) (held x width)) (pair u b x two width))
        ]

-- no pair that waits is apart
pub growing_ended : (F : KissFile) (s t : ℕ) (p : List ℕ) (waiting : List (ℕ × ℕ)) → IsGrowing F s t p waiting → AreTogether p waiting → IsPrincipal F s t p
growing_ended F s t p waiting grown together =
    let closing = grown.closing p grown.lawful (λ u v held. held) together in
    record {
      lawful = grown.lawful;
      closed = closing.0;
      together = closing.1;
      least = λ other closed held. (grown.below other closed held).0;
    }

-- all states are together once two blocks are merged
pub growing_one : (F : KissFile) (s t : ℕ) (p : List ℕ) (old : List (ℕ × ℕ)) (u v : ℕ) (rest : List (ℕ × ℕ)) (r : List ℕ) →
    NeverLeaves F → s < length F.states → t < length F.states → IsGrowing F s t p old → TakesApart p old u v rest → IsMerged p u v r → IsOne r → IsPrincipal F s t r
growing_one F s t p old u v rest r inside in_s in_t so_far takes merged one =
    let lawful : IsPartition (length F.states) r = subst (λ (n : ℕ). IsPartition n r) so_far.lawful.length merged.lawful in
    record {
      lawful = lawful;
      closed = one_pairs F r r inside lawful lawful one;
      together = one s t (omega (arith, in_s, lawful.length)) (omega (arith, in_t, lawful.length));
      least = λ other closed held. let below = so_far.below other closed held in merged_least p r other u v merged below.0 (below.1 u v takes.among);
    }
