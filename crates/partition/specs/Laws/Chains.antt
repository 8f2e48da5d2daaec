-- Chains of states can be reversed and put one after another, and what each link keeps a chain keeps.
use Rattle.std.proofs.Common.{◌≡◌, ℕ, ◌<◌, ◌⊎◌, List, [], ◌∷◌, ◌++◌, length, get_or, refl, sym, ap, ◌∙◌, subst, inl, inr, arith}
use Rattle.partition.specs.Partition.{Together}
use Rattle.partition.specs.MeetAndJoin.{IsMeet, IsJoin, IsGreatestBelow, IsLeastAbove, Leads, Chain}

-- one link of a chain
abbrev pub Link : List ℕ → List ℕ → ℕ → ℕ → Type 0
Link p q s t = Together p s t ⊎ Together q s t

pub together_itself : (p : List ℕ) (s : ℕ) → s < length p → Together p s s
together_itself p s within = (within, within, refl)

pub together_turned : (p : List ℕ) (s t : ℕ) → Together p s t → Together p t s
together_turned p s t held = (held.1, held.0, sym held.2)

pub together_on : (q : List ℕ) (s t u : ℕ) → Together q s t → Together q t u → Together q s u
together_on q s t u one two = (one.0, two.1, one.2 ∙ two.2)

link_turned : (p q : List ℕ) (s t : ℕ) → Link p q s t → Link p q t s
link_turned p q s t (inl held) = inl (together_turned p s t held)
link_turned p q s t (inr held) = inr (together_turned q s t held)

link_within : (p q : List ℕ) (s t : ℕ) → length q ≡ length p → Link p q s t → t < length p
link_within p q s t lengths (inl held) = held.1
link_within p q s t lengths (inr held) = omega (arith, held.1)

leads_on : (p q : List ℕ) (s t u : ℕ) (us vs : List ℕ) → Leads p q s us t → Leads p q t vs u → Leads p q s (us ++ vs) u
leads_on p q s t u [] vs here on = subst (λ (w : ℕ). Leads p q w vs u) (sym here) on
leads_on p q s t u (w ∷ us) vs first on = (first.0, leads_on p q w t u us vs first.1 on)

leads_within : (p q : List ℕ) (s t : ℕ) (us : List ℕ) → length q ≡ length p → s < length p → Leads p q s us t → t < length p
leads_within p q s t [] lengths within here = subst (λ (w : ℕ). w < length p) here within
leads_within p q s t (w ∷ us) lengths within first = leads_within p q w t us lengths (link_within p q s w lengths first.0) first.1

pub chain_within : (p q : List ℕ) (s t : ℕ) → length q ≡ length p → Chain p q s t → t < length p
chain_within p q s t lengths chain = leads_within p q s t chain.1.0 lengths chain.0 chain.1.1

pub chain_none : (p q : List ℕ) (s : ℕ) → s < length p → Chain p q s s
chain_none p q s within = (within, ([], refl))

pub chain_link : (p q : List ℕ) (s t : ℕ) → s < length p → Link p q s t → Chain p q s t
chain_link p q s t within link = (within, (t ∷ [], (link, refl)))

pub chain_on : (p q : List ℕ) (s t u : ℕ) → Chain p q s t → Chain p q t u → Chain p q s u
chain_on p q s t u front back = (front.0, (front.1.0 ++ back.1.0, leads_on p q s t u front.1.0 back.1.0 front.1.1 back.1.1))

turned : (p q : List ℕ) (s t : ℕ) (us : List ℕ) → length q ≡ length p → s < length p → Leads p q s us t → Chain p q t s
turned p q s t [] lengths within here = subst (λ (w : ℕ). Chain p q w s) here (chain_none p q s within)
turned p q s t (w ∷ us) lengths within first =
    let on : w < length p = link_within p q s w lengths first.0 in
    chain_on p q t w s (turned p q w t us lengths on first.1) (chain_link p q w s on (link_turned p q s w first.0))

pub chain_turned : (p q : List ℕ) (s t : ℕ) → length q ≡ length p → Chain p q s t → Chain p q t s
chain_turned p q s t lengths chain = turned p q s t chain.1.0 lengths chain.0 chain.1.1

leads_keeps : (p q : List ℕ) (f : ℕ → ℕ) → ((s t : ℕ) → Together p s t → f s ≡ f t) → ((s t : ℕ) → Together q s t → f s ≡ f t) → (s t : ℕ) (us : List ℕ) → Leads p q s us t → f s ≡ f t
leads_keeps p q f left right s t [] here = ap f here
leads_keeps p q f left right s t (w ∷ us) first =
    elim first.0 [ inl held ↦ left s w held | inr held ↦ right s w held ] ∙ leads_keeps p q f left right w t us first.1

-- what has the same value at both ends of each link has the same value at both ends of a chain
pub chain_keeps : (p q : List ℕ) (f : ℕ → ℕ) → ((s t : ℕ) → Together p s t → f s ≡ f t) → ((s t : ℕ) → Together q s t → f s ≡ f t) → (s t : ℕ) → Chain p q s t → f s ≡ f t
chain_keeps p q f left right s t chain = leads_keeps p q f left right s t chain.1.0 chain.1.1

-- The meet is the greatest partition below both.
pub meet_is_greatest : (p q r : List ℕ) → IsMeet p q r → IsGreatestBelow p q r
meet_is_greatest p q r is = record {
  lawful = is.lawful;
  left = λ s t held. ((is.together s t).0 held).0;
  right = λ s t held. ((is.together s t).0 held).1;
  greatest = λ other lawful left right s t held. (is.together s t).1 (left s t held, right s t held);
}

-- The join is the least partition above both.
pub join_is_least : (p q r : List ℕ) → length q ≡ length p → IsJoin p q r → IsLeastAbove p q r
join_is_least p q r lengths is = record {
  lawful = is.lawful;
  left = λ s t held. (is.together s t).1 (chain_link p q s t held.0 (inl held));
  right = λ s t held. (is.together s t).1 (chain_link p q s t (omega (arith, held.0)) (inr held));
  least = λ other lawful left right s t held.
      let chain = (is.together s t).0 held in
      (omega (arith, chain.0, lawful.length), omega (arith, chain_within p q s t lengths chain, lawful.length), chain_keeps p q (λ u. get_or other u 0) (λ u v together. (left u v together).2) (λ u v together. (right u v together).2) s t chain);
}
