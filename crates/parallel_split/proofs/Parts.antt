-- The parts that the remaining members make.
use Rattle.std.proofs.Common.{◌≡◌, ℕ, suc, ◌<◌, ◌≤◌, All, List, [], ◌∷◌, ◌++◌, length, map, take, drop, refl, sym, ap, ◌∙◌, subst, arith}
use Rattle.std.specs.List.{remove}
use Rattle.std.proofs.lemmas.List.{append-nil, length-map, map-append, take-map, drop-map}
use Rattle.std.proofs.lemmas.List.Elements.{All-cons, All-head, All-map, All-nil, All-tail, All-weaker}
use Rattle.kiss_file.specs.declared.file.KissFile.{KissFile}
use Rattle.partition.specs.Partition.{IsNontrivial, IsZero, Together}
use Rattle.closed_lattice.specs.ClosedPartitions.{IsClosedPartition}
use Rattle.state_codes.specs.declared.split.Part.{Part}
use Rattle.state_codes.specs.Split.{IsPart, TogetherInAll, lone_part}
use Rattle.state_codes.specs.Kinds.{IsOwnCarrier, PartsMeetInZero}
use Rattle.parallel_split.specs.Kind.{HasNoneInParallel, IsParallel}
use Rattle.parallel_split.specs.Best.{IsBestParallel, IsNoMeetOfTwo}
use Rattle.parallel_split.specs.Choice.{AllMeetInZero, IsParallelChoice, LeavesOut}
use Rattle.parallel_split.specs.Inner.Members.{AreMembers, IsMember}
use Rattle.parallel_split.proofs.Gathering.{members_few, members_in_zero}
use Rattle.parallel_split.proofs.Meets.{all_meet_closed}
use Rattle.parallel_split.proofs.Remaining.{AreNeeded, remaining_all, remaining_few, remaining_in_zero, remaining_needed}
use Rattle.parallel_split.proofs.Separating.{member_nontrivial, member_no_meet}

partitions_back : (list : List (List ℕ)) → map (λ (part : Part). part.partition) (map lone_part list) ≡ list
partitions_back [] = refl
partitions_back (p ∷ list) = ap (λ (rest : List (List ℕ)). p ∷ rest) (partitions_back list)

-- what holds of the partitions of all parts
all_back : (P : List ℕ → Type 0) (list : List (List ℕ)) → All (λ (part : Part). P part.partition) (map lone_part list) → All P list
all_back P [] all = All-nil P
all_back P (p ∷ list) all =
    All-cons P p list (All-head (λ (part : Part). P part.partition) (lone_part p) (map lone_part list) all) (all_back P list (All-tail (λ (part : Part). P part.partition) (lone_part p) (map lone_part list) all))

remove-parts : (list : List (List ℕ)) (j : ℕ) → remove (map lone_part list) j ≡ map lone_part (remove list j)
remove-parts list j =
    ap (λ (front : List Part). front ++ drop (suc j) (map lone_part list)) (take-map lone_part j list) ∙ ap (λ (back : List Part). map lone_part (take j list) ++ back) (drop-map lone_part (suc j) list) ∙ sym (map-append lone_part (take j list) (drop (suc j) list))

-- Members whose meet is zero and of which each is needed.
pub record AreLeft (F : KissFile) (remaining : List (List ℕ)) : Type 0 where
  pub members : All (IsMember F) remaining
  pub in_zero : AllMeetInZero (length F.states) remaining
  pub needed : AreNeeded (length F.states) remaining []
  pub some : 2 ≤ length F.states

module _ (F : KissFile) (remaining : List (List ℕ)) (left : AreLeft F remaining) where
  each : (P : List ℕ → Type 0) → ((p : List ℕ) → IsMember F p → P p) → All P remaining
  each P has = All-weaker (IsMember F) P has remaining left.members

-- two at least remain
several : (F : KissFile) (remaining : List (List ℕ)) → AreLeft F remaining → 2 ≤ length remaining
several F [] left = absurd (omega (arith, left.in_zero 0 1 (omega (arith, left.some)) (omega (arith, left.some)) (All-nil (λ p. Together p 0 1))))
several F (p ∷ []) left =
    let member : IsMember F p = All-head (IsMember F) p [] left.members in
    absurd (member.not_zero (λ s t held.
    left.in_zero s t (omega (arith, held.0, member.greatest.closed.0.length)) (omega (arith, held.1, member.greatest.closed.0.length)) (All-cons (λ q. Together q s t) p [] held (All-nil (λ q. Together q s t)))))
several F (p ∷ q ∷ remaining) left = omega arith

-- no two states are together in all parts
parts_in_zero : (F : KissFile) (remaining : List (List ℕ)) → AreLeft F remaining → PartsMeetInZero (map lone_part remaining)
parts_in_zero F [] left s t all = absurd (omega (arith, several F [] left))
parts_in_zero F (p ∷ remaining) left s t all =
    let member : IsMember F p = All-head (IsMember F) p remaining left.members in
    let back : All (λ q. Together q s t) (p ∷ remaining) = all_back (λ q. Together q s t) (p ∷ remaining) all in
    let head : Together p s t = All-head (λ q. Together q s t) p remaining back in
    left.in_zero s t (omega (arith, head.0, member.greatest.closed.0.length)) (omega (arith, head.1, member.greatest.closed.0.length)) back

pub parts_parallel : (F : KissFile) (remaining : List (List ℕ)) → AreLeft F remaining → IsParallel F (map lone_part remaining)
parts_parallel F remaining left = record {
  several = omega (arith, several F remaining left, length-map remaining lone_part);
  own = All-map IsOwnCarrier lone_part remaining (each F remaining left (λ p. IsOwnCarrier (lone_part p)) (λ p member. refl));
  closed = All-map (λ part. IsClosedPartition F part.partition) lone_part remaining (each F remaining left (IsClosedPartition F) (λ p member. member.greatest.closed));
  nontrivial = All-map (λ part. IsNontrivial part.partition) lone_part remaining (each F remaining left IsNontrivial (member_nontrivial F));
  in_zero = parts_in_zero F remaining left;
  reads = All-map (λ part. part.reads ≡ []) lone_part remaining (each F remaining left (λ p. (lone_part p).reads ≡ []) (λ p member. refl));
}

pub parts_best : (F : KissFile) (remaining : List (List ℕ)) → AreLeft F remaining → IsBestParallel F (map lone_part remaining)
parts_best F remaining left = record {
  irreducible = All-map (λ part. IsNoMeetOfTwo F part.partition) lone_part remaining (each F remaining left (IsNoMeetOfTwo F) (member_no_meet F));
  nothing_to_spare = λ j within zero.
      left.needed j (omega (arith, within, length-map remaining lone_part)) (λ s t in_s in_t all.
      let list : All (λ p. Together p s t) (remove remaining j) = subst (All (λ p. Together p s t)) (append-nil (remove remaining j)) all in
      zero s t (subst (λ (parts : List Part). TogetherInAll parts s t) (sym (remove-parts remaining j)) (All-map (λ part. Together part.partition s t) lone_part (remove remaining j) list)));
}

pub parts_lawful : (F : KissFile) (remaining : List (List ℕ)) → AreLeft F remaining → All (IsPart (length F.states)) (map lone_part remaining)
parts_lawful F remaining left =
    All-map (IsPart (length F.states)) lone_part remaining (each F remaining left (λ p. IsPart (length F.states) (lone_part p)) (λ p member. record { partition = member.greatest.closed.0; carrier = member.greatest.closed.0; above = λ s t held. held }))

-- the first of them and the meet of the others are two that meet in zero
pub two_in_parallel : (F : KissFile) (remaining : List (List ℕ)) → AreLeft F remaining → HasNoneInParallel F → ⊥
two_in_parallel F [] left none = absurd (omega (arith, several F [] left))
two_in_parallel F (p ∷ []) left none = absurd (omega (arith, several F (p ∷ []) left))
two_in_parallel F (p ∷ q ∷ remaining) left none =
    let all = left.members in
    let first : IsMember F p = All-head (IsMember F) p (q ∷ remaining) all in
    let rest : All (IsMember F) (q ∷ remaining) = All-tail (IsMember F) p (q ∷ remaining) all in
    let second : IsMember F q = All-head (IsMember F) q remaining rest in
    let meet = all_meet_closed F q remaining (All-weaker (IsMember F) (IsClosedPartition F) (λ x member. member.greatest.closed) (q ∷ remaining) rest) in
    let size : length meet.0 ≡ length F.states = meet.1.0.length in
    none p meet.0 first.greatest.closed meet.1 (member_nontrivial F p first) (
      (λ zero. left.needed 0 (omega arith) (λ s t in_s in_t others.
          zero s t ((meet.2 s t).1 (subst (All (λ x. Together x s t)) (append-nil (q ∷ remaining)) others)))),
      (λ one. (member_nontrivial F q second).1 (λ s t in_s in_t.
          All-head (λ x. Together x s t) q remaining ((meet.2 s t).0 (one s t (omega (arith, in_s, size, second.greatest.closed.0.length)) (omega (arith, in_t, size, second.greatest.closed.0.length)))))),
    )
    (λ s t held others.
    left.in_zero s t (omega (arith, held.0, first.greatest.closed.0.length)) (omega (arith, held.1, first.greatest.closed.0.length)) (All-cons (λ x. Together x s t) p (q ∷ remaining) held ((meet.2 s t).0 others)))

-- what remains of the members found
pub members_left : (F : KissFile) (c : List ℕ) (ordered remaining : List (List ℕ)) → AreMembers F c ordered → IsZero c → 0 < length ordered → LeavesOut (length F.states) [] ordered remaining → AreLeft F remaining
members_left F c ordered remaining all zero some leaves = record {
  members = remaining_all (IsMember F) (length F.states) [] ordered remaining leaves (All-nil (IsMember F)) all.members;
  in_zero = remaining_in_zero (length F.states) [] ordered remaining leaves (members_in_zero F c ordered all zero);
  needed = remaining_needed (length F.states) [] ordered remaining leaves (λ j within. absurd (omega arith));
  some = many ordered all.members some;
}
  where
    many : (list : List (List ℕ)) → All (IsMember F) list → 0 < length list → 2 ≤ length F.states
    many [] each within = absurd (omega arith)
    many (p ∷ list) each within = let member : IsMember F p = All-head (IsMember F) p list each in omega (arith, member.order, member.state)

pub members_choice : (F : KissFile) (c : List ℕ) (ordered remaining : List (List ℕ)) → AreMembers F c ordered → IsZero c → LeavesOut (length F.states) [] ordered remaining → IsParallelChoice F (map lone_part remaining)
members_choice F c ordered remaining all zero leaves = record {
  one = all.one;
  one_lawful = all.one_lawful;
  one_is = all.one_is;
  zero = c;
  zero_is = zero;
  members = all.found;
  separates = all.separates;
  ordered = ordered;
  permutes = all.permutes;
  ascending = all.ascending;
  remaining = subst (LeavesOut (length F.states) [] ordered) (sym (partitions_back remaining)) leaves;
}

pub parts_few : (F : KissFile) (c : List ℕ) (ordered remaining : List (List ℕ)) → AreMembers F c ordered → LeavesOut (length F.states) [] ordered remaining → length (map lone_part remaining) ≤ 256
parts_few F c ordered remaining all leaves =
    omega (arith, length-map remaining lone_part, remaining_few (length F.states) [] ordered remaining leaves, members_few F c ordered all, all.lawful.count.1)
