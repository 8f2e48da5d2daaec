-- The join is associative, commutative and idempotent, and zero is its unit.
use Rattle.std.proofs.Common.{◌≡◌, ℕ, ◌<◌, List, [], ◌∷◌, length, get_or, refl, sym, ap, ◌∙◌, subst, inl, inr, arith}
use Rattle.partition.specs.Partition.{IsPartition, Together, Le, IsZero}
use Rattle.partition.specs.MeetAndJoin.{IsJoin, Leads, Chain}
use Rattle.partition.specs.Laws.Labels.{same_labels, IsPartition-of}
use Rattle.partition.specs.Laws.Chains.{Link, chain_none, chain_link, chain_on, chain_keeps, chain_within}

-- a chain by p and q gives a chain by a and b, if each of its links gives one
leads_map : (p q a b : List ℕ) → length q ≡ length p → length a ≡ length p → ((s t : ℕ) → Link p q s t → Chain a b s t) → (s t : ℕ) (us : List ℕ) → s < length p → Leads p q s us t → Chain a b s t
leads_map p q a b lengths size each s t [] within here = subst (λ (u : ℕ). Chain a b s u) here (chain_none a b s (omega arith))
leads_map p q a b lengths size each s t (u ∷ us) within first =
    chain_on a b s u t (each s u first.0) (leads_map p q a b lengths size each u t us (chain_within p q s u lengths (chain_link p q s u within first.0)) first.1)

pub chain_map : (p q a b : List ℕ) → length q ≡ length p → length a ≡ length p → ((s t : ℕ) → Link p q s t → Chain a b s t) → (s t : ℕ) → Chain p q s t → Chain a b s t
chain_map p q a b lengths size each s t chain = leads_map p q a b lengths size each s t chain.1.0 chain.0 chain.1.1

-- if states that are together in p or in q are together in r, so are the ends of a chain
chain_together : (p q r : List ℕ) → length q ≡ length p → length r ≡ length p → Le p r → Le q r → (s t : ℕ) → Chain p q s t → Together r s t
chain_together p q r lengths size left right s t chain =
    (omega (arith, chain.0), omega (arith, chain_within p q s t lengths chain), chain_keeps p q (λ u. get_or r u 0) (λ u v held. (left u v held).2) (λ u v held. (right u v held).2) s t chain)

-- a join is above both sides
join_left : (p q r : List ℕ) → IsJoin p q r → Le p r
join_left p q r is s t held = (is.together s t).1 (chain_link p q s t held.0 (inl held))

join_right : (p q r : List ℕ) → length q ≡ length p → IsJoin p q r → Le q r
join_right p q r lengths is s t held = (is.together s t).1 (chain_link p q s t (omega (arith, held.0)) (inr held))

pub joins_are_one : (p q r other : List ℕ) → IsJoin p q r → IsJoin p q other → r ≡ other
joins_are_one p q r other one two =
    same_labels r other one.lawful.numbered two.lawful.numbered (omega (arith, one.lawful.length, two.lawful.length)) (λ s t. (
      (λ held. (two.together s t).1 ((one.together s t).0 held)),
      (λ held. (one.together s t).1 ((two.together s t).0 held)),
    ))

pub join_turned : (p q r : List ℕ) → length q ≡ length p → IsJoin p q r → IsJoin q p r
join_turned p q r lengths is = record {
  lawful = IsPartition-of (sym lengths) is.lawful;
  together = λ s t. (
    (λ held. chain_map p q q p lengths lengths (λ u v link. turn u v link) s t ((is.together s t).0 held)),
    (λ chain. (is.together s t).1 (chain_map q p p q (sym lengths) (sym lengths) (λ u v link. back u v link) s t chain)),
  );
}
  where
    turn : (u v : ℕ) → Link p q u v → Chain q p u v
    turn u v (inl held) = chain_link q p u v (omega (arith, held.0, lengths)) (inr held)
    turn u v (inr held) = chain_link q p u v held.0 (inl held)

    back : (u v : ℕ) → Link q p u v → Chain p q u v
    back u v (inl held) = chain_link p q u v (omega (arith, held.0, lengths)) (inr held)
    back u v (inr held) = chain_link p q u v held.0 (inl held)

pub join_of_join : (p q r front back all : List ℕ) → length q ≡ length p → length r ≡ length p → IsJoin p q front → IsJoin front r all → IsJoin q r back → IsJoin p back all
join_of_join p q r front back all q_size r_size is_front is_all is_back = record {
  lawful = IsPartition-of is_front.lawful.length is_all.lawful;
  together = λ s t. (
    (λ held. chain_map front r p back (r_size ∙ sym is_front.lawful.length) (sym is_front.lawful.length) (λ u v link. split u v link) s t ((is_all.together s t).0 held)),
    (λ chain. chain_together p back all back_size all_size (λ u v held. join_left front r all is_all u v (join_left p q front is_front u v held)) above s t chain),
  );
}
  where
    back_size : length back ≡ length p
    back_size = is_back.lawful.length ∙ q_size

    all_size : length all ≡ length p
    all_size = is_all.lawful.length ∙ is_front.lawful.length

    front_size : length front ≡ length p
    front_size = is_front.lawful.length

    split : (u v : ℕ) → Link front r u v → Chain p back u v
    split u v (inl held) =
        chain_map p q p back q_size refl (λ a b link. elim link [ inl left ↦ chain_link p back a b left.0 (inl left) | inr right ↦ chain_link p back a b (omega (arith, right.0, q_size)) (inr (join_left q r back is_back a b right)) ]) u v ((is_front.together u v).0 held)
    split u v (inr held) = chain_link p back u v (omega (arith, held.0, r_size)) (inr (join_right q r back (r_size ∙ sym q_size) is_back u v held))

    above : Le back all
    above u v held =
        chain_together q r all (r_size ∙ sym q_size) (all_size ∙ sym q_size) (λ a b left. join_left front r all is_all a b (join_right p q front q_size is_front a b left)) (λ a b right. join_right front r all (r_size ∙ sym front_size) is_all a b right) u v ((is_back.together u v).0 held)

pub join_of_itself : (p : List ℕ) → IsPartition (length p) p → IsJoin p p p
join_of_itself p lawful = record {
  lawful = lawful;
  together = λ s t. (
    (λ held. chain_link p p s t held.0 (inl held)),
    (λ chain. chain_together p p p refl refl (λ u v held. held) (λ u v held. held) s t chain),
  );
}

pub join_with_zero : (p zero' : List ℕ) → IsPartition (length p) p → length zero' ≡ length p → IsZero zero' → IsJoin zero' p p
join_with_zero p zero' lawful size is = record {
  lawful = IsPartition-of (sym size) lawful;
  together = λ s t. (
    (λ held. chain_link zero' p s t (omega (arith, held.0, size)) (inr held)),
    (λ chain. chain_together zero' p p (sym size) (sym size) (λ u v held. (omega (arith, held.0, size), omega (arith, held.1, size), ap (λ (w : ℕ). get_or p w 0) (is u v held))) (λ u v held. held) s t chain),
  );
}
