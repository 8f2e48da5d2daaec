-- The members as they are found, until their meet is zero.
use Rattle.std.proofs.Common.{◌≡◌, ℕ, ◌+◌, ◌<◌, ◌≤◌, All, List, [], ◌∷◌, ◌++◌, length, refl, sym, subst, arith}
use Rattle.std.proofs.lemmas.List.{length_push}
use Rattle.std.proofs.lemmas.List.Elements.{All-nil, All-head, All-push}
use Rattle.std.proofs.lemmas.List.Sorted.{All-permutation, IsPermutation-append_left, IsPermutation-refl, IsPermutation-sym, IsPermutation-trans, length_permutation}
use Rattle.kiss_file.specs.declared.file.KissFile.{KissFile}
use Rattle.partition.specs.Partition.{IsOne, IsPartition, IsZero, Together, zero_of}
use Rattle.partition.specs.MeetAndJoin.{IsMeet}
use Rattle.partition.specs.Laws.Labels.{blocks_of-le, label-lt-blocks_of, IsPartition-of}
use Rattle.closed_lattice.specs.Limits.{HoldsApart, IsGreatestGrown}
use Rattle.partition.specs.Laws.Blocks.{strictly_fewer}
use Rattle.state_codes.specs.Laws.Places.{All-left, All-right}
use Rattle.parallel_split.specs.Kind.{HasNoneInParallel}
use Rattle.parallel_split.specs.Choice.{AllMeetInZero, IsFirstHeld, IsSeparating, SeparatesTo}
use Rattle.parallel_split.specs.Inner.Members.{AreMembers, IsMember, PutsInOrder}

separates_more : (F : KissFile) (c d e : List ℕ) (members : List (List ℕ)) (s t : ℕ) (p : List ℕ) → SeparatesTo F c members d → IsFirstHeld d s t → IsSeparating F s t p → IsMeet d p e → SeparatesTo F c (members ++ p ∷ []) e
separates_more F c d e [] s t p here first grown meet =
    subst (λ (top : List ℕ). SeparatesTo F top (p ∷ []) e) (sym here) (s, t, first, grown, (e, meet, refl))
separates_more F c d e (q ∷ members) s t p (u, v, held, separating, (next, meets, rest)) first grown meet =
    (u, v, held, separating, (next, meets, separates_more F next d e members s t p rest first grown meet))

-- at first there are none, and one is their meet
pub members_begun : (F : KissFile) (one : List ℕ) → IsPartition (length F.states) one → IsOne one → AreMembers F one []
members_begun F one lawful is = record {
  one = one;
  one_lawful = lawful;
  one_is = is;
  found = [];
  separates = refl;
  permutes = IsPermutation-refl [];
  ascending = λ i j d order within. absurd (omega arith);
  members = All-nil (IsMember F);
  lawful = lawful;
  together = λ s t in_s in_t. ((λ held. All-nil (λ p. Together p s t)), (λ all. is s t (omega (arith, lawful.length)) (omega (arith, lawful.length))));
  few = omega (arith, label-lt-blocks_of one 0 (omega (arith, lawful.length, lawful.count.0)));
}

-- a member that separates two states which all before it hold together
pub member_new : (F : KissFile) (c : List ℕ) (ordered : List (List ℕ)) (s t : ℕ) (p : List ℕ) → AreMembers F c ordered → IsFirstHeld c s t → HoldsApart s t p → All (λ q. q ≡ p → ⊥) ordered
member_new F c ordered s t p so_far first apart k d within same =
    let in_s : s < length F.states = omega (arith, first.held.0, so_far.lawful.length) in
    let in_t : t < length F.states = omega (arith, first.held.1, so_far.lawful.length) in
    apart (subst (λ (q : List ℕ). Together q s t) same ((so_far.together s t in_s in_t).0 first.held k d within))

pub members_more : (F : KissFile) (c : List ℕ) (ordered : List (List ℕ)) (s t : ℕ) (p next : List ℕ) (new : List (List ℕ)) → AreMembers F c ordered → IsFirstHeld c s t → IsSeparating F s t p
    → IsGreatestGrown F (HoldsApart s t) (zero_of (length F.states)) p → (IsZero p → ⊥) → IsMeet c p next → PutsInOrder ordered p new → AreMembers F next new
members_more F c ordered s t p next new so_far first grown greatest not_zero meet puts = record {
  one = so_far.one;
  one_lawful = so_far.one_lawful;
  one_is = so_far.one_is;
  found = so_far.found ++ p ∷ [];
  separates = separates_more F so_far.one c next so_far.found s t p so_far.separates first grown meet;
  permutes = IsPermutation-trans (so_far.found ++ p ∷ []) (ordered ++ p ∷ []) new (IsPermutation-append_left (p ∷ []) so_far.found ordered so_far.permutes) puts.permutes;
  ascending = puts.ascending;
  members = All-permutation (IsMember F) (ordered ++ p ∷ []) new puts.permutes (All-push (IsMember F) ordered p so_far.members member);
  lawful = lawful;
  together = λ u v in_u in_v. (
    (λ held. let both = (meet.together u v).0 held in
        All-permutation (λ q. Together q u v) (ordered ++ p ∷ []) new puts.permutes (All-push (λ q. Together q u v) ordered p ((so_far.together u v in_u in_v).0 both.0) both.1)),
    (λ all.
        let each : All (λ q. Together q u v) (ordered ++ p ∷ []) = All-permutation (λ q. Together q u v) new (ordered ++ p ∷ []) (IsPermutation-sym (ordered ++ p ∷ []) new puts.permutes) all in
        (meet.together u v).1 ((so_far.together u v in_u in_v).1 (All-left (λ q. Together q u v) ordered (p ∷ []) each), All-head (λ q. Together q u v) p [] (All-right (λ q. Together q u v) ordered (p ∷ []) each))),
  );
  few = omega (
    arith,
    length_permutation (ordered ++ p ∷ []) new puts.permutes,
    length_push ordered p,
    so_far.few,
    strictly_fewer (length F.states) next c lawful so_far.lawful (λ u v held. ((meet.together u v).0 held).0) (λ above. greatest.meets ((meet.together s t).0 (above s t first.held)).1),
  );
}
  where
    lawful : IsPartition (length F.states) next
    lawful = IsPartition-of so_far.lawful.length meet.lawful

    member : IsMember F p
    member = record { s = s; t = t; order = first.order; state = omega (arith, first.held.1, so_far.lawful.length); greatest = greatest; not_zero = not_zero }

pub members_few : (F : KissFile) (c : List ℕ) (ordered : List (List ℕ)) → AreMembers F c ordered → length ordered + 1 ≤ length F.states
members_few F c ordered all = omega (arith, all.few, blocks_of-le c all.lawful.numbered, all.lawful.length)

-- at the end their meet is zero
pub members_in_zero : (F : KissFile) (c : List ℕ) (ordered : List (List ℕ)) → AreMembers F c ordered → IsZero c → AllMeetInZero (length F.states) ordered
members_in_zero F c ordered all zero s t in_s in_t each = zero s t ((all.together s t in_s in_t).1 each)

-- and where there are none, all partitions are zero
pub members_none : (F : KissFile) (c : List ℕ) (ordered : List (List ℕ)) → AreMembers F c ordered → IsZero c → ordered ≡ [] → HasNoneInParallel F
members_none F c ordered all zero none p q closed other nontrivial =
    absurd (nontrivial.0 (λ s t held.
    let in_s : s < length F.states = omega (arith, held.0, closed.0.length) in
    let in_t : t < length F.states = omega (arith, held.1, closed.0.length) in
    members_in_zero F c ordered all zero s t in_s in_t (subst (All (λ q. Together q s t)) (sym none) (All-nil (λ q. Together q s t)))))
