-- The names of the blocks of a partition: they come one after the other as the least states do, and no two are equal.
use Rattle.std.proofs.Common.{◌≡◌, ℕ, ◌+◌, ◌<◌, ◌≤◌, ◌==◌, max, inl, inr, All, Contains, List, [], ◌∷◌, ◌++◌, Some, length, get_or, map, take, sym, ap, ◌∙◌, subst, arith}
use Rattle.std.proofs.lemmas.Bool.{cases_lt, cases_order, eq-eqb, eqb-true, false≢true, ne_eqb}
use Rattle.std.proofs.lemmas.List.{take_all}
use Rattle.std.proofs.lemmas.List.Elements.{All-from_get_or}
use Rattle.std.proofs.lemmas.List.FromFn.{get_or-map-range_with_len, length-map-range_with_len, map-range_with_len_more}
use Rattle.std.proofs.lemmas.List.Sums.{fails_before_first, passes_at_first, position_or_len_is}
use Rattle.std.proofs.lemmas.Option.{get_or_from_slice_get}
use Rattle.std.specs.List.{range_with_len, slice_get}
use Rattle.kiss_file.specs.Names.{AreDistinct, IsPlainName, name_of}
use Rattle.part_machines.specs.PartMachine.{least_with}
use Rattle.partition.specs.Partition.{IsNumbered, blocks_of}
use Rattle.partition.specs.Laws.Labels.{block_stands, blocks_of-take-more, label-lt-blocks_of-take}
use Rattle.part_texts.specs.Inner.PartHere.{names_of_blocks}

-- a name stands at one place
pub one_place : (names : List (List ℕ)) (s t : ℕ) → AreDistinct names → s < length names → t < length names → name_of names s ≡ name_of names t → s ≡ t
one_place names s t distinct in_s in_t same =
    elim (cases_order s t) [
      | inl equal ↦ equal
      | inr (inl before) ↦ absurd (distinct s t [] before in_t same)
      | inr (inr after) ↦ absurd (distinct t s [] after in_s (sym same))
    ]

-- the names of the first blocks
abbrev pub first_names : List (List ℕ) → List ℕ → ℕ → List (List ℕ)
first_names names p count = map (λ block. name_of names (least_with p block)) (range_with_len 0 count)

pub length-first_names : (names : List (List ℕ)) (p : List ℕ) (count : ℕ) → length (first_names names p count) ≡ count
length-first_names names p count = length-map-range_with_len (λ block. name_of names (least_with p block)) 0 count

name_at : (names : List (List ℕ)) (p : List ℕ) (count block : ℕ) (d : List ℕ) → block < count → get_or (first_names names p count) block d ≡ name_of names (least_with p block)
name_at names p count block d below = get_or-map-range_with_len (λ block. name_of names (least_with p block)) 0 count block block d below (omega arith)

module _ (p : List ℕ) (numbered : IsNumbered p) where
  -- the first place of a label
  least_is : (block s : ℕ) → s < length p → get_or p s 0 ≡ block → ((t : ℕ) → t < s → get_or p t 0 ≡ block → ⊥) → least_with p block ≡ s
  least_is block s within here before =
      position_or_len_is (λ label. label == block) p s 0 (omega (arith, within)) (λ t low. ne_eqb (get_or p t 0) block (before t low)) (λ inside. eq-eqb (get_or p s 0) block here)

  -- among the first states, each block that they show has its least state, which is labelled with it
  least_among : (s block : ℕ) → s ≤ length p → block < blocks_of (take s p) → (least_with p block < s) × (get_or p (least_with p block) 0 ≡ block)
  least_among s block upto below =
      let stands = block_stands p numbered s upto block below in
      let first = first_place stands.0 (omega (arith, stands.1, upto)) stands.2 in
      (omega (arith, first.0, stands.1), first.1)
    where
      first_place : (t : ℕ) → t < length p → get_or p t 0 ≡ block → (least_with p block ≤ t) × (get_or p (least_with p block) 0 ≡ block)
      first_place t within here =
          let most : least_with p block ≤ t =
          elim (cases_lt t (least_with p block)) [
            | inl later ↦ absurd (false≢true (sym (fails_before_first (λ label. label == block) p t 0 later) ∙ eq-eqb (get_or p t 0) block here))
            | inr upto ↦ omega (arith, upto)
          ] in
          (most, eqb-true (get_or p (least_with p block) 0) block (passes_at_first (λ label. label == block) p 0 (omega (arith, most, within))))

  module _ (names : List (List ℕ)) (distinct : AreDistinct names) (size : length p ≡ length names) where
    -- a name that is not one of those before it
    name_is_new : (s : ℕ) → s < length p → Contains (first_names names p (blocks_of (take s p))) (name_of names s) → ⊥
    name_is_new s within (block, inside, is) =
        let below : block < blocks_of (take s p) = omega (arith, inside, length-first_names names p (blocks_of (take s p))) in
        let least = least_among s block (omega (arith, within)) below in
        let same : least_with p block ≡ s =
        one_place names (least_with p block) s distinct (omega (arith, least.0, within, size)) (omega (arith, within, size)) (sym (name_at names p (blocks_of (take s p)) block (name_of names s) below) ∙ is) in
        omega (arith, same, least.0)

    -- the name of the least state of a further block goes last
    pub name_added : (s : ℕ) (old new : List (List ℕ)) (name : List ℕ) → s < length p → old ≡ first_names names p (blocks_of (take s p)) → slice_get names s ≡ Some name
        → get_or p s 0 ≡ length old → ((Contains old name → ⊥) → new ≡ old ++ name ∷ []) → new ≡ first_names names p (blocks_of (take (s + 1) p))
    name_added s old new name within front named further last =
        let count : ℕ = blocks_of (take s p) in
        let label : get_or p s 0 ≡ count = further ∙ ap length front ∙ length-first_names names p count in
        let is : name_of names s ≡ name = get_or_from_slice_get names s name [] named in
        let absent : Contains old name → ⊥ =
        λ there. name_is_new s within (subst (λ (list : List (List ℕ)). Contains list (name_of names s)) front (subst (Contains old) (sym is) there)) in
        let least : least_with p count ≡ s =
        least_is count s within label (λ t low same. let earlier = label-lt-blocks_of-take p t s low (omega (arith, within)) in omega (arith, earlier, same)) in
        let more : blocks_of (take (s + 1) p) ≡ count + 1 = blocks_of-take-more p s within ∙ ap (λ (n : ℕ). max count (n + 1)) label ∙ omega arith in
        last absent ∙ ap (λ (list : List (List ℕ)). list ++ name ∷ []) front
        ∙ ap (λ (n : List ℕ). first_names names p count ++ n ∷ []) (sym is ∙ ap (name_of names) (sym least))
        ∙ sym (map-range_with_len_more (λ block. name_of names (least_with p block)) 0 count count (omega arith))
        ∙ ap (first_names names p) (sym more)

    -- no name is added for a state of a block that was met
    pub none_added : (s : ℕ) (old : List (List ℕ)) → s < length p → old ≡ first_names names p (blocks_of (take s p)) → (get_or p s 0 ≡ length old → ⊥)
        → old ≡ first_names names p (blocks_of (take (s + 1) p))
    none_added s old within front met =
        let count : ℕ = blocks_of (take s p) in
        let size_is : length old ≡ count = ap length front ∙ length-first_names names p count in
        let low : get_or p s 0 ≤ count = numbered s within in
        let below : get_or p s 0 < count = omega (arith, low, met, size_is) in
        let same : blocks_of (take (s + 1) p) ≡ count = blocks_of-take-more p s within ∙ omega (arith, below) in
        front ∙ ap (first_names names p) (sym same)

    -- no two names of blocks are equal
    pub names_distinct : AreDistinct (names_of_blocks names p)
    names_distinct i j d before within same =
        let count : ℕ = blocks_of p in
        let all : take (length p) p ≡ p = take_all (length p) p (omega arith) in
        let high : j < count = omega (arith, within, length-first_names names p count) in
        let found : (block : ℕ) → block < count → (least_with p block < length p) × (get_or p (least_with p block) 0 ≡ block) =
        λ block below. least_among (length p) block (omega arith) (subst (λ (list : List ℕ). block < blocks_of list) (sym all) below) in
        let first = found i (omega (arith, before, high)) in
        let second = found j high in
        let equal : least_with p i ≡ least_with p j =
        one_place names (least_with p i) (least_with p j) distinct (omega (arith, first.0, size)) (omega (arith, second.0, size))
        (sym (name_at names p count i d (omega (arith, before, high))) ∙ same ∙ name_at names p count j d high) in
        let labels : i ≡ j = sym first.1 ∙ ap (λ (s : ℕ). get_or p s 0) equal ∙ second.1 in
        omega (arith, labels, before)

    -- each is the name of a state
    pub names_plain : All IsPlainName names → All IsPlainName (names_of_blocks names p)
    names_plain plain =
        All-from_get_or IsPlainName (names_of_blocks names p) []
        (λ block within.
        let count : ℕ = blocks_of p in
        let below : block < count = omega (arith, within, length-first_names names p count) in
        let all : take (length p) p ≡ p = take_all (length p) p (omega arith) in
        let least = least_among (length p) block (omega arith) (subst (λ (list : List ℕ). block < blocks_of list) (sym all) below) in
        subst IsPlainName (sym (name_at names p count block [] below)) (plain (least_with p block) [] (omega (arith, least.0, size))))
