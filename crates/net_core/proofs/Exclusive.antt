-- The causes of refusals exclude one another, and soundness.
use Rattle.std.proofs.Common.{◌≡◌, ℕ, ◌⊎◌, List, [], ◌∷◌, ◌++◌, map, All, Contains, Result, Ok, Err, IfErr, Some, slice_get, inl, inr, sym, ◌∙◌, refl, ap, subst, arith}
use Rattle.std.specs.List.{AllByRecursion, flat_map}
use Rattle.std.specs.Str.{bytes_eq}
use Rattle.std.proofs.lemmas.List.Elements.{All-append, All-contains, All-contains_itself, All-map, Contains-append_right, Contains-push_cases, recursion_from_All}
use Rattle.std.proofs.lemmas.List.Sorted.{All-permutation, Contains-permutation, IsPermutation-map}
use Rattle.std.proofs.lemmas.Option.{same_Some, slice_get-get_or}
use Rattle.std.proofs.lemmas.Slice.Eq.{bytes_eq-Decides}
use Rattle.list_facts.specs.Laws.Members.{Contains-cons, Contains-here, Contains-none, Contains-there}
use Rattle.net_core.specs.declared.Gate.{Gate}
use Rattle.net_core.specs.declared.Network.{Network}
use Rattle.net_core.specs.declared.causes.NetFail.{NetFail}
use Rattle.net_core.specs.declared.causes.NetFail.TheVariants.{TwoDrivers, Undriven, Cycle, NoMemory}
use Rattle.net_core.specs.declared.gate_order.Order.{Order}
use Rattle.net_core.specs.Causes.{AcceptsSound, AreOnce, CausesAreAlike, IsCause, IsCycle, IsFirstAgain, IsFirstOutside, GateReads, ReadsAlong, SoundHasNoCause, uses_of}
use Rattle.net_core.specs.SoundNetwork.{IsOrdered, Sound, driven_by, drivers_of}
use Rattle.net_core.specs.Laws.Counted.{once_place, once_right, twice}
use Rattle.net_core.proofs.Numbered.{stands_at}
use Rattle.net_core.proofs.Ordered.{name_of_gate}

flat_all : (P : List ℕ → Type 0) (gates : List Gate) → AllByRecursion (λ gate. All P gate.inputs) gates → All P (flat_map (λ gate. gate.inputs) gates)
flat_all P [] all k d lt = absurd (omega arith)
flat_all P (g ∷ gates) (here, all) k d lt = All-append P g.inputs (flat_map (λ gate. gate.inputs) gates) here (flat_all P gates all) k d lt

-- what is used in a sound network is driven
used_is_driven : (N : Network) → Sound N → All (Contains (drivers_of N)) (uses_of N)
used_is_driven N s =
    let P : List ℕ → Type 0 = Contains (drivers_of N) in
    let latches = map (λ latch. latch.input) N.latches in
    let gates = flat_map (λ gate. gate.inputs) N.gates in
    All-append P N.outputs (latches ++ gates) s.outputs
    (All-append P latches gates (All-map P (λ latch. latch.input) N.latches s.latch_inputs) (flat_all P N.gates (recursion_from_All (λ gate. All P gate.inputs) N.gates s.gate_inputs)))

within_list : (earlier : List (List ℕ)) (name : List ℕ) (later : List (List ℕ)) → Contains (earlier ++ name ∷ later) name
within_list earlier name later = Contains-append_right earlier (name ∷ later) name (Contains-here name later)

not_outside : (these names : List (List ℕ)) (name : List ℕ) → All (Contains these) names → IsFirstOutside these names name → ⊥
not_outside these names name all first =
    first.outside (All-contains (Contains these) names name all (subst (λ list. Contains list name) (sym first.is) (within_list first.earlier name first.later)))

not_again : (names : List (List ℕ)) (name : List ℕ) → AreOnce names → IsFirstAgain names name → ⊥
not_again names name once first =
    twice bytes_eq bytes_eq-Decides first.earlier name first.later first.again (subst AreOnce first.is once)

-- a name of the cycle reads a name of the cycle
reads_next : (N : Network) (name : List ℕ) (others : List (List ℕ)) (last n : List ℕ) → ReadsAlong N name others last → Contains (name ∷ others) n → (m : List ℕ) × Contains (others ++ last ∷ []) m × GateReads N n m
reads_next N name [] last n reads among =
    elim (Contains-cons name n [] among) [
      | inl is ↦ (last, Contains-here last [], subst (λ k. GateReads N k last) is reads)
      | inr none ↦ absurd (Contains-none n none)
    ]
reads_next N name (x ∷ others) last n (reads, along) among =
    elim (Contains-cons name n (x ∷ others) among) [
      | inl is ↦ (x, Contains-here x (others ++ last ∷ []), subst (λ k. GateReads N k x) is reads)
      | inr later ↦ let found = reads_next N x others last n along later in (found.0, Contains-there x found.0 (others ++ last ∷ []) found.1, found.2)
    ]

-- gates that drive one name are one
same_gate : (gates : List Gate) (a b : Gate) → AreOnce (driven_by gates) → Contains gates a → Contains gates b → a.output ≡ b.output → a ≡ b
same_gate gates a b once (i, lt_i, is_a) (j, lt_j, is_b) same =
    let at_a : slice_get gates i ≡ Some a = slice_get-get_or gates i a lt_i ∙ ap Some is_a in
    let at_b : slice_get gates j ≡ Some b = slice_get-get_or gates j b lt_j ∙ ap Some is_b in
    let place : i ≡ j = once_place bytes_eq bytes_eq-Decides (driven_by gates) i j a.output once (name_of_gate gates i a at_a) (name_of_gate gates j b at_b ∙ ap Some (sym same)) in
    same_Some a b (sym at_a ∙ (ap (λ (n : ℕ). slice_get gates n) place ∙ at_b))

module _ (N : Network) (names : List (List ℕ)) (cycle : IsCycle N names) (once : AreOnce (driven_by N.gates)) where
  next_of : (n : List ℕ) → Contains names n → (m : List ℕ) × Contains names m × GateReads N n m
  next_of n among =
      let found = reads_next N cycle.first cycle.others cycle.first n cycle.reads (subst (λ list. Contains list n) cycle.is among) in (
        found.0,
        subst (λ list. Contains list found.0) (sym cycle.is) (elim (Contains-push_cases cycle.others cycle.first found.0 found.1) [
          | inl later ↦ Contains-there cycle.first found.0 cycle.others later
          | inr first ↦ subst (Contains (cycle.first ∷ cycle.others)) first (Contains-here cycle.first cycle.others)
        ]),
        found.2,
      )

  is_driven : (n : List ℕ) → Contains names n → Contains (driven_by N.gates) n
  is_driven n among =
      let reads = (next_of n among).2 in
      let gate = reads.0 in
      let at : slice_get N.gates reads.1.0 ≡ Some gate = slice_get-get_or N.gates reads.1.0 gate reads.1.1 ∙ ap Some reads.1.2 in
      stands_at (driven_by N.gates) reads.1.0 n (name_of_gate N.gates reads.1.0 gate at ∙ ap Some reads.2)

  -- in an order no gate drives a name of the cycle
  none_in_order : (gates : List Gate) (earlier : List (List ℕ)) → IsOrdered (driven_by N.gates) earlier gates → AllByRecursion (Contains N.gates) gates
      → ((n : List ℕ) → Contains names n → Contains earlier n → ⊥) → (n : List ℕ) → Contains names n → Contains (driven_by gates) n → ⊥
  none_in_order [] earlier ordered among apart n in_cycle driven = Contains-none n driven
  none_in_order (gate ∷ gates) earlier (first, ordered) (here, among) apart n in_cycle driven =
      let not_here : Contains names gate.output → ⊥ =
      λ h.
      let next = next_of gate.output h in
      let same : next.2.0 ≡ gate = same_gate N.gates next.2.0 gate once next.2.1 here next.2.2 in
      let reads : Contains gate.inputs next.0 = subst (λ g. Contains g.inputs next.0) same next.2.3 in
      apart next.0 next.1 (All-contains (λ name. Contains (driven_by N.gates) name → Contains earlier name) gate.inputs next.0 first reads (is_driven next.0 next.1)) in
      elim (Contains-cons gate.output n (driven_by gates) driven) [
        | inl is ↦ not_here (subst (Contains names) (sym is) in_cycle)
        | inr later ↦ none_in_order gates (gate.output ∷ earlier) ordered among (λ m m_in m_earlier.
            elim (Contains-cons gate.output m earlier m_earlier) [
              | inl is ↦ not_here (subst (Contains names) (sym is) m_in)
              | inr before ↦ apart m m_in before
            ]) n in_cycle later
      ]

not_cyclic : (N : Network) (names : List (List ℕ)) → Sound N → IsCycle N names → ⊥
not_cyclic N names s cycle =
    let outs = map (λ latch. latch.output) N.latches in
    let once : AreOnce (driven_by N.gates) =
    once_right bytes_eq bytes_eq-Decides outs (driven_by N.gates) (once_right bytes_eq bytes_eq-Decides N.inputs (outs ++ driven_by N.gates) s.driven_once) in
    let order = s.order.0 in
    let first_in : Contains names cycle.first = subst (λ list. Contains list cycle.first) (sym cycle.is) (Contains-here cycle.first cycle.others) in
    let driven : Contains (driven_by order) cycle.first =
    Contains-permutation (driven_by N.gates) (driven_by order) cycle.first (IsPermutation-map (λ gate. gate.output) N.gates order s.order.1) (is_driven N names cycle once cycle.first first_in) in
    none_in_order N names cycle once order [] s.order.2
    (recursion_from_All (Contains N.gates) order (All-permutation (Contains N.gates) N.gates order s.order.1 (All-contains_itself N.gates)))
    (λ n n_in none. Contains-none n none) cycle.first first_in driven

pub sound_none : SoundHasNoCause
sound_none N (TwoDrivers name) of_network cause s = not_again (drivers_of N) name s.driven_once cause
sound_none N (Undriven name) of_network cause s = not_outside (drivers_of N) (uses_of N) name (used_is_driven N s) cause.1
sound_none N (Cycle names) of_network cause s = not_cyclic N names s cause.2
sound_none N NoMemory of_network cause s = absurd of_network

pub accepted : (N : Network) (r : Result Order NetFail) → IfErr r (IsCause N) → Sound N → AcceptsSound r
accepted N (Ok order) cause sound = tt
accepted N (Err (TwoDrivers name)) cause sound = absurd (sound_none N (TwoDrivers name) tt cause sound)
accepted N (Err (Undriven name)) cause sound = absurd (sound_none N (Undriven name) tt cause sound)
accepted N (Err (Cycle names)) cause sound = absurd (sound_none N (Cycle names) tt cause sound)
accepted N (Err NoMemory) cause sound = refl

-- two places in a list: the same, or one behind the other
two_places : (e l f m : List (List ℕ)) (a b : List ℕ) → e ++ a ∷ l ≡ f ++ b ∷ m → (a ≡ b) ⊎ ((rest : List (List ℕ)) × (f ≡ e ++ a ∷ rest)) ⊎ ((rest : List (List ℕ)) × (e ≡ f ++ b ∷ rest))
two_places [] l [] m a b is = inl cc
two_places [] l (y ∷ f) m a b is = let same : a ≡ y = cc in inr (inl (f, ap (λ z. z ∷ f) (sym same)))
two_places (x ∷ e) l [] m a b is = let same : x ≡ b = cc in inr (inr (e, ap (λ z. z ∷ e) same))
two_places (x ∷ e) l (y ∷ f) m a b is =
    let same : x ≡ y = cc in
    let rest : e ++ a ∷ l ≡ f ++ b ∷ m = cc in
    elim (two_places e l f m a b rest) [
      | inl is_same ↦ inl is_same
      | inr (inl later) ↦ inr (inl (later.0, ap (λ z. z ∷ f) (sym same) ∙ ap (λ list. x ∷ list) later.1))
      | inr (inr earlier) ↦ inr (inr (earlier.0, ap (λ z. z ∷ e) same ∙ ap (λ list. y ∷ list) earlier.1))
    ]

same_again : (names : List (List ℕ)) (a b : List ℕ) → IsFirstAgain names a → IsFirstAgain names b → a ≡ b
same_again names a b p q =
    elim (two_places p.earlier p.later q.earlier q.later a b (sym p.is ∙ q.is)) [
      | inl same ↦ same
      | inr (inl later) ↦ absurd (twice bytes_eq bytes_eq-Decides p.earlier a later.0 p.again (subst AreOnce later.1 q.once))
      | inr (inr earlier) ↦ absurd (twice bytes_eq bytes_eq-Decides q.earlier b earlier.0 q.again (subst AreOnce earlier.1 p.once))
    ]

same_outside : (these names : List (List ℕ)) (a b : List ℕ) → IsFirstOutside these names a → IsFirstOutside these names b → a ≡ b
same_outside these names a b p q =
    elim (two_places p.earlier p.later q.earlier q.later a b (sym p.is ∙ q.is)) [
      | inl same ↦ same
      | inr (inl later) ↦ absurd (p.outside (All-contains (Contains these) q.earlier a q.within (subst (λ list. Contains list a) (sym later.1) (within_list p.earlier a later.0))))
      | inr (inr earlier) ↦ absurd (q.outside (All-contains (Contains these) p.earlier b p.within (subst (λ list. Contains list b) (sym earlier.1) (within_list q.earlier b earlier.0))))
    ]

pub causes_alike : CausesAreAlike
causes_alike N (TwoDrivers a) (TwoDrivers b) k l p q = same_again (drivers_of N) a b p q
causes_alike N (TwoDrivers a) (Undriven b) k l p q = absurd (not_again (drivers_of N) a q.0 p)
causes_alike N (TwoDrivers a) (Cycle b) k l p q = absurd (not_again (drivers_of N) a q.0 p)
causes_alike N (TwoDrivers a) NoMemory k l p q = absurd l
causes_alike N (Undriven a) (TwoDrivers b) k l p q = absurd (not_again (drivers_of N) b p.0 q)
causes_alike N (Undriven a) (Undriven b) k l p q = same_outside (drivers_of N) (uses_of N) a b p.1 q.1
causes_alike N (Undriven a) (Cycle b) k l p q = absurd (not_outside (drivers_of N) (uses_of N) a q.1 p.1)
causes_alike N (Undriven a) NoMemory k l p q = absurd l
causes_alike N (Cycle a) (TwoDrivers b) k l p q = absurd (not_again (drivers_of N) b p.0 q)
causes_alike N (Cycle a) (Undriven b) k l p q = absurd (not_outside (drivers_of N) (uses_of N) b p.1 q.1)
causes_alike N (Cycle a) (Cycle b) k l p q = tt
causes_alike N (Cycle a) NoMemory k l p q = absurd l
causes_alike N NoMemory other k l p q = absurd k
