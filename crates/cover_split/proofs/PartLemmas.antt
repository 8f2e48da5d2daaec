-- The split by blocks.
use Rattle.std.proofs.Common.{◌≡◌, ℕ, zero, suc, ◌+◌, ◌<◌, ◌≤◌, Bool, List, [], ◌∷◌, All, Some, length, get_or, map, slice_get, take, refl, sym, ap, ◌∙◌, subst, inl, inr, arith}
use Rattle.std.proofs.lemmas.Bool.{cases_lt}
use Rattle.std.proofs.lemmas.List.{get_or-map, length-map}
use Rattle.std.proofs.lemmas.List.Elements.{All-cons, All-get_or, All-head, All-nil, All-tail}
use Rattle.std.proofs.lemmas.Option.{get_or_from_slice_get, same_Some, slice_get-get_or, slice_get_within}
use Rattle.kiss_file.specs.declared.file.KissFile.{KissFile}
use Rattle.kiss_file.specs.Machine.{next}
use Rattle.pair_operators.specs.Pair.{Closed}
use Rattle.partition.specs.Partition.{IsNontrivial, IsPartition, Le, Together, blocks_of, zero_of}
use Rattle.partition.specs.NestedBlocks.{IsComplement, IsLargestSize}
use Rattle.partition.specs.Refusal.{AllLawful}
use Rattle.partition.specs.Laws.Extremes.{zero_of_is_partition, zero_of_is_zero}
use Rattle.partition.specs.Laws.Labels.{IsPartition-of, label-lt-blocks_of-take}
use Rattle.state_codes.specs.declared.split.Part.{Part}
use Rattle.state_codes.specs.Split.{IsPart, own_part}
use Rattle.state_codes.specs.Kinds.{IsOwnCarrier, PartsMeetInZero}
use Rattle.state_codes.specs.Laws.InnerLabels.{complement_apart}
use Rattle.cover_split.specs.StateCover.{IsBlock, IsStateCover, block_at}
use Rattle.cover_split.specs.Expansion.{IsExpansion, IsPair, IsTarget, pairs_of}
use Rattle.cover_split.specs.Parts.{IsByBlock, IsClosedFront, IsLongest, IsSplitByBlock}
use Rattle.cover_split.specs.Laws.Pairs.{few_blocks, length-pairs_of, pair_at, pair_has, pair_of, placed, some_pair, start_of}

-- the block of each pair
unfoldable pub labels_of : List (List ℕ) → List ℕ
labels_of blocks = map (λ pair. pair.0) (pairs_of blocks)

pub length-labels_of : (blocks : List (List ℕ)) → length (labels_of blocks) ≡ length (pairs_of blocks)
unfolding labels_of
length-labels_of blocks = length-map (pairs_of blocks) (λ (pair : ℕ × ℕ). pair.0)

pub label_is : (blocks : List (List ℕ)) (i j s d : ℕ) → IsPair blocks i j s → get_or (labels_of blocks) i d ≡ j
unfolding labels_of
label_is blocks i j s d pair =
    get_or-map (λ (p : ℕ × ℕ). p.0) (pairs_of blocks) i (j, s) d (slice_get_within (pairs_of blocks) i (j, s) pair)
    ∙ ap (λ (p : ℕ × ℕ). p.0) (get_or_from_slice_get (pairs_of blocks) i (j, s) (j, s) pair)

-- where the next block begins
start_more : (blocks : List (List ℕ)) (j : ℕ) → j < length blocks → start_of blocks (suc j) ≡ start_of blocks j + length (block_at blocks j)
unfolding start_of
start_more [] j within = absurd (omega arith)
start_more (block ∷ []) zero within = omega arith
start_more (block ∷ next ∷ blocks) zero within = omega arith
start_more (block ∷ blocks) (suc j) within = omega (arith, start_more blocks j (omega arith))

module _ (n : ℕ) (blocks : List (List ℕ)) (cover : IsStateCover n blocks) where
  few : length blocks ≤ 256
  few = omega (arith, few_blocks n blocks cover.lawful, cover.few)

  -- a block before that of a pair has a pair before it
  earlier_block : (i j s k : ℕ) → IsPair blocks i j s → suc k ≡ j → k < blocks_of (take i (labels_of blocks))
  earlier_block i j s k pair before =
      let it = placed blocks i j s pair in
      let same : it.block ≡ suc k = omega (arith, it.is_block, before) in
      let within : k < length blocks = omega (arith, it.within, same) in
      let some = (All-get_or (IsBlock n) blocks k [] within cover.lawful).some in
      let start : start_of blocks it.block ≡ start_of blocks (suc k) = ap (start_of blocks) same in
      let earlier : start_of blocks k + 0 < i = omega (arith, it.number, start, start_more blocks k within, some) in
      let first = pair_at blocks k 0 (get_or (block_at blocks k) 0 0) (slice_get-get_or (block_at blocks k) 0 0 some) in
      let inside : i ≤ length (labels_of blocks) = omega (arith, slice_get_within (pairs_of blocks) i (j, s) pair, length-labels_of blocks) in
      omega (arith, label-lt-blocks_of-take (labels_of blocks) (start_of blocks k + 0) i earlier inside, label_is blocks (start_of blocks k + 0) k (get_or (block_at blocks k) 0 0) 0 first)

  labels_lawful : AllLawful (labels_of blocks)
  labels_lawful place within =
      let it = some_pair blocks place (omega (arith, length-labels_of blocks)) in
      let is : get_or (labels_of blocks) place 0 ≡ it.0 = label_is blocks place it.0 it.1 0 it.2 in
      let inside = (pair_has blocks place it.0 it.1 it.2).0 in
      (low it.0 it.1 it.2 is, omega (arith, is, inside, few)) where
        low : (j s : ℕ) → IsPair blocks place j s → get_or (labels_of blocks) place 0 ≡ j → get_or (labels_of blocks) place 0 ≤ blocks_of (take place (labels_of blocks))
        low zero s pair is = omega (arith, is)
        low (suc k) s pair is = omega (arith, is, earlier_block place (suc k) s k pair refl)

  labels_few : length (labels_of blocks) ≤ 256
  labels_few = omega (arith, length-labels_of blocks, length-pairs_of blocks, cover.few)

  labels_some : 0 < length (labels_of blocks)
  labels_some =
      let state = cover.each 0 (omega (arith, cover.count.0)) in
      let pair = pair_of blocks state.0 0 state.2 in
      omega (arith, slice_get_within (pairs_of blocks) pair.0 (state.0, 0) pair.1, length-labels_of blocks)

  pub labels_are_lawful : IsPartition (length (labels_of blocks)) (labels_of blocks)
  labels_are_lawful = record {
    count = (labels_some, labels_few);
    length = refl;
    numbered = λ s within. (labels_lawful s within).0;
  }

-- labels by blocks
pub by_block : (blocks : List (List ℕ)) (p : List ℕ) → p ≡ labels_of blocks → IsPartition (length p) p → IsByBlock blocks p
by_block blocks p is lawful = record {
  lawful = subst (λ (k : ℕ). IsPartition k p) size lawful;
  together = λ i j s k l t one other. (
    (λ held. sym (at i j s one) ∙ held.2 ∙ at k l t other),
    (λ same. (
      omega (arith, size, slice_get_within (pairs_of blocks) i (j, s) one),
      omega (arith, size, slice_get_within (pairs_of blocks) k (l, t) other),
      at i j s one ∙ same ∙ sym (at k l t other),
    )),
  );
} where
  size : length p ≡ length (pairs_of blocks)
  size = ap length is ∙ length-labels_of blocks

  at : (i j s : ℕ) → IsPair blocks i j s → get_or p i 0 ≡ j
  at i j s pair = ap (λ (xs : List ℕ). get_or xs i 0) is ∙ label_is blocks i j s 0 pair

-- ---- the first part is closed
pub one_target : (F : KissFile) (blocks : List (List ℕ)) (j : ℕ) (x : List Bool) (t u : ℕ) → IsTarget F blocks j x t → IsTarget F blocks j x u → t ≡ u
one_target F blocks j x t u first second =
    elim (cases_lt t u) [
      | inl before ↦ absurd (second.first t before first.has)
      | inr from_on ↦
          elim (cases_lt u t) [
            | inl behind ↦ absurd (first.first u behind second.has)
            | inr same ↦ omega arith
          ]
    ]

pub closed_front : (F E : KissFile) (blocks : List (List ℕ)) (p : List ℕ) → IsByBlock blocks p → IsExpansion F blocks E → Closed E p
closed_front F E blocks p is expansion i k x held width =
    let one = some_pair blocks i (omega (arith, held.0, is.lawful.length)) in
    let other = some_pair blocks k (omega (arith, held.1, is.lawful.length)) in
    let same : one.0 ≡ other.0 = (is.together i one.0 one.1 k other.0 other.1 one.2 other.2).0 held in
    let long : length x ≡ F.inputs = width ∙ expansion.inputs in
    let goes = expansion.next_pairs i x long one.0 one.1 one.2 in
    let goes_too = expansion.next_pairs k x long other.0 other.1 other.2 in
    let targets : goes.0 ≡ goes_too.0 =
    one_target F blocks other.0 x goes.0 goes_too.0 (subst (λ (j : ℕ). IsTarget F blocks j x goes.0) same goes.1) goes_too.1 in
    (is.together (next E i x) goes.0 (next F one.1 x) (next E k x) goes_too.0 (next F other.1 x) goes.2 goes_too.2).1 targets

-- ---- the two parts
module _ (blocks : List (List ℕ)) (first second : List ℕ) (parts : List Part) (two : parts ≡ own_part first [] ∷ own_part second (0 ∷ []) ∷ []) where
  lone : (P : Part → Type 0) → P (own_part first []) → P (own_part second (0 ∷ [])) → All P parts
  lone P one other =
      subst (All P) (sym two) (All-cons P (own_part first []) (own_part second (0 ∷ []) ∷ []) one (All-cons P (own_part second (0 ∷ [])) [] other (All-nil P)))

  pub in_zero : IsByBlock blocks first → IsComplement first second → PartsMeetInZero parts
  in_zero is complement s t all =
      let lawful = is.lawful in
      let P : Part → Type 0 = λ p. Together p.partition s t in
      let both : All P (own_part first [] ∷ own_part second (0 ∷ []) ∷ []) = subst (All P) two all in
      let held : Together first s t = All-head P (own_part first []) (own_part second (0 ∷ []) ∷ []) both in
      let inner : Together second s t = All-head P (own_part second (0 ∷ [])) [] (All-tail P (own_part first []) (own_part second (0 ∷ []) ∷ []) both) in
      complement_apart (length (pairs_of blocks)) first second lawful complement s t held inner

  pub split_by_block : IsByBlock blocks first → IsComplement first second → IsLargestSize first (blocks_of second) → IsNontrivial first → blocks_of first ≡ length blocks → IsLongest blocks (blocks_of second)
      → IsSplitByBlock blocks parts
  split_by_block is complement largest nontrivial counted longest = record {
    first = own_part first [];
    second = own_part second (0 ∷ []);
    two = two;
    own = lone IsOwnCarrier refl refl;
    by_block = is;
    complement = complement;
    nontrivial = nontrivial;
    first_blocks = counted;
    second_blocks = longest;
    largest = largest;
    first_reads = refl;
    second_reads = refl;
  }

  pub lawful_parts : IsByBlock blocks first → IsComplement first second → All (IsPart (length (pairs_of blocks))) parts
  lawful_parts is complement =
      let inner : IsPartition (length (pairs_of blocks)) second = IsPartition-of is.lawful.length complement.lawful in
      lone (IsPart (length (pairs_of blocks))) (record { partition = is.lawful; carrier = is.lawful; above = λ s t held. held }) (record { partition = inner; carrier = inner; above = λ s t held. held })

  pub closed_parts : IsByBlock blocks first → IsClosedFront blocks parts
  closed_parts is F E part expansion there =
      let same : own_part first [] ≡ part = same_Some (own_part first []) part (subst (λ (list : List Part). slice_get list 0 ≡ Some part) two there) in
      subst (λ (p : Part). Closed E p.partition) same (closed_front F E blocks first is expansion)

-- the labels that are read
pub labels_are : (blocks : List (List ℕ)) (pairs read : List (ℕ × ℕ)) (labels list : List ℕ) → pairs ≡ pairs_of blocks → read ≡ pairs → labels ≡ map (λ pair. pair.0) read → list ≡ labels → list ≡ labels_of blocks
unfolding labels_of
labels_are blocks pairs read labels list are same is again = again ∙ is ∙ ap (λ (ps : List (ℕ × ℕ)). map (λ pair. pair.0) ps) (same ∙ are)
