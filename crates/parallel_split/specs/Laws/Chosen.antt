-- There is one parallel split that is chosen.
use Rattle.std.proofs.Common.{◌≡◌, ℕ, ◌<◌, inl, inr, All, Contains, IsPermutation, List, [], ◌∷◌, ◌++◌, length, get_or, map, refl, sym, ap, ◌∙◌, subst, arith}
use Rattle.std.proofs.lemmas.Bool.{cases_order}
use Rattle.std.proofs.lemmas.List.Elements.{All-head, All-tail}
use Rattle.std.proofs.lemmas.List.Sorted.{Contains-permutation, IsPermutation-sym}
use Rattle.kiss_file.specs.declared.file.KissFile.{KissFile}
use Rattle.partition.specs.Partition.{IsZero, Together, zero_of}
use Rattle.partition.specs.Order.{Before, IsSmaller}
use Rattle.partition.specs.MeetAndJoin.{IsMeet}
use Rattle.pair_operators.specs.Laws.Growth.{grown_once}
use Rattle.pair_operators.specs.Growth.{pairs_of}
use Rattle.closed_lattice.specs.ClosedPartitions.{IsPrincipal}
use Rattle.closed_lattice.specs.Limits.{HoldsApart}
use Rattle.closed_lattice.specs.Laws.Generating.{principals_are_one}
use Rattle.state_codes.specs.declared.split.Part.{Part}
use Rattle.state_codes.specs.Kinds.{IsOwnCarrier}
use Rattle.state_codes.specs.Split.{lone_part}
use Rattle.parallel_split.specs.Choice.{IsFirstHeld, IsParallelChoice, IsSeparating, LeavesOut, SeparatesTo}
use Rattle.parallel_split.specs.Laws.{ChoiceIsOne}
use Rattle.parallel_split.specs.Laws.Once.{ascending_once, meets_are_one, ones_are_one}

-- no two first states
firsts_are_one : (c : List ℕ) (s t u v : ℕ) → IsFirstHeld c s t → IsFirstHeld c u v → s ≡ u
firsts_are_one c s t u v one two =
    elim (cases_order s u) [
      | inl same ↦ same
      | inr apart ↦ elim apart [
        | inl before ↦ absurd (two.first s t before one.order one.held)
        | inr after ↦ absurd (one.first u v after two.order two.held)
      ]
    ]

leasts_are_one : (c : List ℕ) (s t v : ℕ) → IsFirstHeld c s t → IsFirstHeld c s v → t ≡ v
leasts_are_one c s t v one two =
    elim (cases_order t v) [
      | inl same ↦ same
      | inr apart ↦ elim apart [
        | inl before ↦ absurd (two.least t one.order before one.held)
        | inr after ↦ absurd (one.least v two.order after two.held)
      ]
    ]

separating_once : (F : KissFile) (s t : ℕ) (p other : List ℕ) → IsSeparating F s t p → IsSeparating F s t other → p ≡ other
separating_once F s t p other one two =
    grown_once (IsPrincipal F) (HoldsApart s t) (principals_are_one F) (zero_of (length F.states)) p other (pairs_of (length F.states)) one two

-- no two states of zero are a first pair
zero_holds_none : (c d : List ℕ) (s t : ℕ) → c ≡ d → IsZero d → IsFirstHeld c s t → ⊥
zero_holds_none c d s t same zero first = omega (arith, first.order, zero s t (subst (λ (p : List ℕ). Together p s t) same first.held))

-- the members are found one after another
members_once : (F : KissFile) (c d e : List ℕ) (members others : List (List ℕ)) → IsZero d → IsZero e → SeparatesTo F c members d → SeparatesTo F c others e → members ≡ others
members_once F c d e [] [] zero other_zero here there = refl
members_once F c d e [] (q ∷ others) zero other_zero here (u, v, held, separating, rest) = absurd (zero_holds_none c d u v here zero held)
members_once F c d e (p ∷ members) [] zero other_zero (s, t, held, separating, rest) there = absurd (zero_holds_none c e s t there other_zero held)
members_once F c d e (p ∷ members) (q ∷ others) zero other_zero (s, t, held, separating, (next, meets, rest)) (u, v, other_held, other_separating, (other_next, other_meets, other_rest)) =
    let same_s : s ≡ u = firsts_are_one c s t u v held other_held in
    let same_t : t ≡ v = leasts_are_one c s t v held (subst (λ (w : ℕ). IsFirstHeld c w v) (sym same_s) other_held) in
    let same : p ≡ q = separating_once F s t p q separating (subst (λ (w : ℕ). IsSeparating F s w q) (sym same_t) (subst (λ (w : ℕ). IsSeparating F w v q) (sym same_s) other_separating)) in
    let same_next : next ≡ other_next = meets_are_one c q next other_next (subst (λ (x : List ℕ). IsMeet c x next) same meets) other_meets in
    ap (λ (x : List ℕ). x ∷ members) same
    ∙ ap (λ (list : List (List ℕ)). q ∷ list) (members_once F other_next d e members others zero other_zero (subst (λ (x : List ℕ). SeparatesTo F x members d) same_next rest) other_rest)

-- the order of partitions goes one way
smaller_one_way : (p q : List ℕ) → IsSmaller p q → IsSmaller q p → ⊥
smaller_one_way p q one two =
    elim (cases_order one.first two.first) [
      | inl at ↦ omega (arith, one.smaller, subst (λ (s : ℕ). get_or q s 0 < get_or p s 0) (sym at) two.smaller)
      | inr apart ↦ elim apart [
        | inl before ↦ omega (arith, one.smaller, two.same one.first before)
        | inr after ↦ omega (arith, two.smaller, one.same two.first after)
      ]
    ]

before_one_way : (p q : List ℕ) → Before p q → Before q p → ⊥
before_one_way p q (inl more) (inl fewer) = omega arith
before_one_way p q (inl more) (inr less) = omega (arith, less.0)
before_one_way p q (inr less) (inl more) = omega (arith, less.0)
before_one_way p q (inr less) (inr other) = smaller_one_way p q less.1 other.1

-- what the one list has in order the other has
among_ordered : (members others ordered sorted : List (List ℕ)) → IsPermutation members ordered → IsPermutation others sorted → members ≡ others → (z : List ℕ) → Contains ordered z → Contains sorted z
among_ordered members others ordered sorted permutes other_permutes same z among =
    Contains-permutation others sorted z other_permutes (subst (λ (list : List (List ℕ)). Contains list z) same (Contains-permutation ordered members z (IsPermutation-sym members ordered permutes) among))

-- and what is left out is decided
remaining_once : (n : ℕ) (kept members left right : List (List ℕ)) → LeavesOut n kept members left → LeavesOut n kept members right → left ≡ right
remaining_once n kept [] left right here there = sym here ∙ there
remaining_once n kept (p ∷ members) left right (inl (spared, rest)) (inl (other_spared, other_rest)) = remaining_once n kept members left right rest other_rest
remaining_once n kept (p ∷ members) left right (inl (spared, rest)) (inr (needed, other_rest)) = absurd (needed spared)
remaining_once n kept (p ∷ members) left right (inr (needed, rest)) (inl (spared, other_rest)) = absurd (needed spared)
remaining_once n kept (p ∷ members) left right (inr (needed, rest)) (inr (other_needed, other_rest)) = remaining_once n (kept ++ p ∷ []) members left right rest other_rest

-- the partitions decide the parts
part_back : (part : Part) → IsOwnCarrier part → part.reads ≡ [] → lone_part part.partition ≡ part
part_back part own reads =
    ap (λ (carrier : List ℕ). record { partition = part.partition; carrier = carrier; reads = [] }) (sym own)
    ∙ ap (λ (numbers : List ℕ). record { partition = part.partition; carrier = part.carrier; reads = numbers }) (sym reads)

parts_back : (parts : List Part) → All IsOwnCarrier parts → All (λ (p : Part). p.reads ≡ []) parts → map lone_part (map (λ (part : Part). part.partition) parts) ≡ parts
parts_back [] own reads = refl
parts_back (part ∷ parts) own reads =
    ap (λ (first : Part). first ∷ map lone_part (map (λ (p : Part). p.partition) parts)) (part_back part (All-head IsOwnCarrier part parts own) (All-head (λ (p : Part). p.reads ≡ []) part parts reads))
    ∙ ap (λ (rest : List Part). part ∷ rest) (parts_back parts (All-tail IsOwnCarrier part parts own) (All-tail (λ (p : Part). p.reads ≡ []) part parts reads))

module _ (F : KissFile) (one other : List Part) (choice : IsParallelChoice F one) (choice_other : IsParallelChoice F other) where
  members_same : choice.members ≡ choice_other.members
  members_same =
      let top : choice_other.one ≡ choice.one = ones_are_one (length F.states) choice_other.one choice.one choice_other.one_lawful choice_other.one_is choice.one_lawful choice.one_is in
      members_once F choice.one choice.zero choice_other.zero choice.members choice_other.members choice.zero_is choice_other.zero_is choice.separates
      (subst (λ (c : List ℕ). SeparatesTo F c choice_other.members choice_other.zero) top choice_other.separates)

  ordered_same : choice.ordered ≡ choice_other.ordered
  ordered_same =
      ascending_once Before before_one_way choice.ordered choice_other.ordered choice.ascending choice_other.ascending
      (among_ordered choice.members choice_other.members choice.ordered choice_other.ordered choice.permutes choice_other.permutes members_same)
      (among_ordered choice_other.members choice.members choice_other.ordered choice.ordered choice_other.permutes choice.permutes (sym members_same))

  partitions_same : map (λ (part : Part). part.partition) one ≡ map (λ (part : Part). part.partition) other
  partitions_same =
      remaining_once (length F.states) [] choice_other.ordered (map (λ (part : Part). part.partition) one) (map (λ (part : Part). part.partition) other)
      (subst (λ (list : List (List ℕ)). LeavesOut (length F.states) [] list (map (λ (part : Part). part.partition) one)) ordered_same choice.remaining)
      choice_other.remaining

pub choice_is_one : ChoiceIsOne
choice_is_one F one other parallel parallel_other choice choice_other =
    sym (parts_back one parallel.own parallel.reads) ∙ ap (map lone_part) (partitions_same F one other choice choice_other) ∙ parts_back other parallel_other.own parallel_other.reads
