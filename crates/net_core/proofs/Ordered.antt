-- A sequence of numbered gates puts the gates of the network in order, and a cycle of them is a cycle.
use Rattle.std.proofs.Common.{◌≡◌, ℕ, zero, suc, ◌+◌, ◌<◌, ◌≤◌, List, [], ◌∷◌, ◌++◌, get_or, length, length-append, map, take, drop, All, Contains, Some, slice_get, option_map, inl, inr, sym, ◌∙◌, refl, ap, subst, arith, nat_eq}
use Rattle.std.specs.List.{AllZip}
use Rattle.std.specs.List.Sorted.{IsPermutation}
use Rattle.std.specs.Str.{bytes_eq}
use Rattle.std.proofs.lemmas.Bool.Decides.{Decides-eqb}
use Rattle.std.proofs.lemmas.List.{append_assoc, drop_more, get_or-take, length-map, length-take, take-append-drop, take-map}
use Rattle.std.proofs.lemmas.List.Elements.{All-contains, Contains-get_or}
use Rattle.std.proofs.lemmas.Option.{none-some, same_Some, slice_get_cases, slice_get-get_or, slice_get-map, slice_get_within}
use Rattle.std.proofs.lemmas.Slice.Eq.{bytes_eq-Decides}
use Rattle.list_facts.specs.Laws.Members.{Contains-cons, Contains-here, Contains-none, Contains-there}
use Rattle.list_facts.specs.Laws.Places.{get_behind}
use Rattle.net_core.specs.declared.Gate.{Gate}
use Rattle.net_core.specs.declared.Network.{Network}
use Rattle.net_core.specs.declared.gate_order.NumberedGate.{NumberedGate}
use Rattle.net_core.specs.Causes.{AreOnce, GateReads, ReadsAlong, IsCycle}
use Rattle.net_core.specs.Order.{AreAt, IsNumbered}
use Rattle.net_core.specs.SoundNetwork.{IsOrdered, driven_by, drivers_of}
use Rattle.net_core.specs.Inner.Walk.{read_by, reads_of, Needs, NeedsAlong, StandOnce, IsBehind, IsGateCycle, IsSequence}
use Rattle.net_core.specs.Laws.Counted.{once_apart, once_place, once_right, counted-cons, counted_none, cond_of}
use Rattle.net_core.specs.Laws.Zipped.{zip_lengths}
use Rattle.net_core.proofs.Numbered.{stands_at}
use Rattle.net_core.proofs.Permuted.{permuted}

-- the items at places within a list
pub items_at : {X : Type 0} (xs : List X) (places : List ℕ) → All (λ p. p < length xs) places → (items : List X) × AreAt xs places items
items_at xs [] within = ([], tt)
items_at xs (p ∷ ps) within =
    let rest = items_at xs ps (λ k d lt. within (suc k) d (omega arith)) in
    elim (slice_get_cases xs p).1 [
      | inl inside ↦ (inside.0 ∷ rest.0, (inside.2, rest.1))
      | inr past ↦ absurd (omega (arith, past.0, within 0 p (omega arith)))
    ]

-- what stands at a place among these stands among their items
pub item_among : {X : Type 0} (xs : List X) (places : List ℕ) (items : List X) (p : ℕ) (x : X) → AreAt xs places items → Contains places p → slice_get xs p ≡ Some x → Contains items x
item_among xs [] items p x at among is = absurd (Contains-none p among)
item_among xs (q ∷ places) [] p x at among is = absurd at
item_among xs (q ∷ places) (y ∷ items) p x (here, at) among is =
    elim (Contains-cons q p places among) [
      | inl same ↦ subst (Contains (y ∷ items)) (same_Some y x (sym here ∙ (ap (slice_get xs) same ∙ is))) (Contains-here y items)
      | inr later ↦ Contains-there y x items (item_among xs places items p x at later is)
    ]

-- and the other way round
pub place_among : {X : Type 0} (xs : List X) (places : List ℕ) (items : List X) (x : X) → AreAt xs places items → Contains items x → (p : ℕ) × Contains places p × (slice_get xs p ≡ Some x)
place_among xs [] [] x at among = absurd (Contains-none x among)
place_among xs [] (y ∷ items) x at among = absurd at
place_among xs (q ∷ places) [] x at among = absurd at
place_among xs (q ∷ places) (y ∷ items) x (here, at) among =
    elim (Contains-cons y x items among) [
      | inl same ↦ (q, Contains-here q places, here ∙ ap Some same)
      | inr later ↦ let found = place_among xs places items x at later in (found.0, Contains-there q found.0 places found.1, found.2)
    ]

-- names at places that stand once stand once
once_items : (names : List (List ℕ)) (places : List ℕ) (items : List (List ℕ)) → AreOnce names → AreAt names places items → StandOnce places → AreOnce items
once_items names [] [] once at apart name = omega arith
once_items names [] (y ∷ items) once at apart name = absurd at
once_items names (p ∷ places) [] once at apart name = absurd at
once_items names (p ∷ places) (y ∷ items) once (here, at) apart name =
    let rest = once_items names places items once at (λ g. omega (arith, counted-cons nat_eq Decides-eqb g p places, apart g)) in
    let more = counted-cons bytes_eq bytes_eq-Decides name y items in
    elim (cond_of bytes_eq bytes_eq-Decides name y) [
      | inl is ↦ omega (
        arith,
        more,
        is.1,
        counted_none bytes_eq bytes_eq-Decides name items (λ among.
            let found = place_among names places items name at among in
            let same : p ≡ found.0 = once_place bytes_eq bytes_eq-Decides names p found.0 name once (here ∙ ap Some (sym is.0)) found.2 in
            once_apart nat_eq Decides-eqb p places apart (subst (Contains places) (sym same) found.1)),
      )
      | inr other ↦ omega (arith, more, other.1, rest name)
    ]

-- what a gate drives, by its place
pub name_of_gate : (gates : List Gate) (g : ℕ) (gate : Gate) → slice_get gates g ≡ Some gate → slice_get (driven_by gates) g ≡ Some gate.output
name_of_gate gates g gate is = slice_get-map (λ x. x.output) gates g ∙ ap (λ o. option_map (λ x. x.output) o) is

-- the numbers of a gate's inputs, by its place
inputs_at : (drivers : List (List ℕ)) (gates : List Gate) (numbered : List NumberedGate) (g : ℕ) (gate : Gate) → AllZip (IsNumbered drivers) gates numbered → slice_get gates g ≡ Some gate → AreAt drivers (read_by (reads_of numbered) g) gate.inputs
inputs_at drivers [] numbered g gate zip is = absurd (none-some gate is)
inputs_at drivers (x ∷ gates) [] g gate zip is = absurd zip
inputs_at drivers (x ∷ gates) (n ∷ numbered) zero gate (here, zip) is = subst (λ y. AreAt drivers n.inputs.items y.inputs) (same_Some x gate is) here.inputs
inputs_at drivers (x ∷ gates) (n ∷ numbered) (suc g) gate (here, zip) is = inputs_at drivers gates numbered g gate zip is

module _ (N : Network) (numbered : List NumberedGate) (once : AreOnce (drivers_of N)) (zip : AllZip (IsNumbered (drivers_of N)) N.gates numbered) where
  count : length (reads_of numbered) ≡ length N.gates
  count = length-map numbered (λ gate. gate.inputs.items) ∙ sym (zip_lengths (IsNumbered (drivers_of N)) N.gates numbered zip)

  -- the signal of a gate
  driver_at : (h : ℕ) → slice_get (drivers_of N) ((length N.inputs + length N.latches) + h) ≡ slice_get (driven_by N.gates) h
  driver_at h =
      let outs = map (λ latch. latch.output) N.latches in
      ap (λ i. slice_get (drivers_of N) (i + h)) (ap (λ m. length N.inputs + m) (sym (length-map N.latches (λ latch. latch.output))) ∙ sym (length-append N.inputs outs))
      ∙ (ap (λ list. slice_get list (length (N.inputs ++ outs) + h)) (sym (append_assoc N.inputs outs (driven_by N.gates))) ∙ get_behind (N.inputs ++ outs) (driven_by N.gates) h)

  once_driven : AreOnce (driven_by N.gates)
  once_driven =
      let outs = map (λ latch. latch.output) N.latches in
      once_right bytes_eq bytes_eq-Decides outs (driven_by N.gates) (once_right bytes_eq bytes_eq-Decides N.inputs (outs ++ driven_by N.gates) once)

  -- a gate that needs another has its name among its inputs
  reads_needed : (g h : ℕ) (gate : Gate) (name : List ℕ) → slice_get N.gates g ≡ Some gate → slice_get (driven_by N.gates) h ≡ Some name → Needs (length N.inputs + length N.latches) (reads_of numbered) g h → Contains gate.inputs name
  reads_needed g h gate name is_gate is_name needs =
      item_among (drivers_of N) (read_by (reads_of numbered) g) gate.inputs ((length N.inputs + length N.latches) + h) name (inputs_at (drivers_of N) N.gates numbered g gate zip is_gate) needs (driver_at h ∙ is_name)

  -- and the other way round
  needs_read : (g h : ℕ) (gate : Gate) (name : List ℕ) → slice_get N.gates g ≡ Some gate → slice_get (driven_by N.gates) h ≡ Some name → Contains gate.inputs name → Needs (length N.inputs + length N.latches) (reads_of numbered) g h
  needs_read g h gate name is_gate is_name among =
      let found = place_among (drivers_of N) (read_by (reads_of numbered) g) gate.inputs name (inputs_at (drivers_of N) N.gates numbered g gate zip is_gate) among in
      let same : found.0 ≡ (length N.inputs + length N.latches) + h =
      once_place bytes_eq bytes_eq-Decides (drivers_of N) found.0 ((length N.inputs + length N.latches) + h) name once found.2 (driver_at h ∙ is_name) in
      subst (Contains (read_by (reads_of numbered) g)) same found.1

  name_at : (g : ℕ) (gate : Gate) → slice_get N.gates g ≡ Some gate → slice_get (driven_by N.gates) g ≡ Some gate.output
  name_at g gate is = name_of_gate N.gates g gate is

  ordered : (places : List ℕ) (gates : List Gate) (before : List ℕ) (names : List (List ℕ)) → AreAt N.gates places gates → AreAt (driven_by N.gates) before names
      → IsBehind (length N.inputs + length N.latches) (reads_of numbered) before places → IsOrdered (driven_by N.gates) names gates
  ordered [] [] before names at earlier behind = tt
  ordered [] (x ∷ gates) before names at earlier behind = absurd at
  ordered (p ∷ places) [] before names at earlier behind = absurd at
  ordered (p ∷ places) (x ∷ gates) before names (here, at) earlier (needs, behind) = (
    λ k d lt driven.
        let name = get_or x.inputs k d in
        let is_name : slice_get (driven_by N.gates) driven.0 ≡ Some name = slice_get-get_or (driven_by N.gates) driven.0 name driven.1 ∙ ap Some driven.2 in
        item_among (driven_by N.gates) before names driven.0 name earlier (needs driven.0 (needs_read p driven.0 x name here is_name (Contains-get_or x.inputs k d lt))) is_name,
    ordered places gates (p ∷ before) (x.output ∷ names) at (name_at p x here, earlier) behind,
  )

  -- the gates in the order of a sequence
  pub gates_in_order : (places : List ℕ) → IsSequence (length N.inputs + length N.latches) (reads_of numbered) places
      → (gates : List Gate) × AreAt N.gates places gates × IsPermutation N.gates gates × IsOrdered (driven_by N.gates) [] gates
  gates_in_order places s =
      let within : All (λ g. g < length N.gates) places = λ k d lt. omega (arith, s.within k d lt, count) in
      let items = items_at N.gates places within in (
        items.0,
        items.1,
        permuted N.gates places items.0 items.1 within (λ p lt. s.whole p (omega (arith, lt, count))) s.once,
        ordered places items.0 [] [] items.1 tt s.behind,
      )

  reads_from : (g h : ℕ) (name other : List ℕ) → slice_get (driven_by N.gates) g ≡ Some name → slice_get (driven_by N.gates) h ≡ Some other → Needs (length N.inputs + length N.latches) (reads_of numbered) g h → GateReads N name other
  reads_from g h name other is_name is_other needs =
      let within : g < length N.gates = omega (arith, slice_get_within (driven_by N.gates) g name is_name, length-map N.gates (λ gate. gate.output)) in
      elim (slice_get_cases N.gates g).1 [
        | inl inside ↦ (inside.0, stands_at N.gates g inside.0 inside.2, same_Some inside.0.output name (sym (name_at g inside.0 inside.2) ∙ is_name), reads_needed g h inside.0 other inside.2 is_other needs)
        | inr past ↦ absurd (omega (arith, past.0, within))
      ]

  reads_along : (g : ℕ) (others : List ℕ) (z : ℕ) (name : List ℕ) (names : List (List ℕ)) (last : List ℕ) → slice_get (driven_by N.gates) g ≡ Some name → AreAt (driven_by N.gates) others names → slice_get (driven_by N.gates) z ≡ Some last
      → NeedsAlong (length N.inputs + length N.latches) (reads_of numbered) g others z → ReadsAlong N name names last
  reads_along g [] z name [] last is at is_last needs = reads_from g z name last is is_last needs
  reads_along g [] z name (n ∷ names) last is at is_last needs = absurd at
  reads_along g (h ∷ others) z name [] last is at is_last needs = absurd at
  reads_along g (h ∷ others) z name (n ∷ names) last is (here, at) is_last (needs, along) =
      (reads_from g h name n is here needs, reads_along h others z n names last here at is_last along)

  -- the names of a cycle are a cycle
  pub named_cycle : (cycle : List ℕ) (names : List (List ℕ)) → IsGateCycle (length N.inputs + length N.latches) (reads_of numbered) cycle → AreAt (driven_by N.gates) cycle names → IsCycle N names
  named_cycle cycle [] r at = absurd (subst (λ places. AreAt (driven_by N.gates) places []) r.is at)
  named_cycle cycle (n ∷ ns) r at =
      let driven = driven_by N.gates in
      let split : AreAt driven (r.first ∷ r.others) (n ∷ ns) = subst (λ places. AreAt driven places (n ∷ ns)) r.is at in
      let within : r.first < length N.gates = omega (arith, slice_get_within driven r.first n split.0, length-map N.gates (λ gate. gate.output)) in
      record {
        first = n;
        others = ns;
        is = refl;
        once = once_items driven cycle (n ∷ ns) once_driven at r.once;
        reads = reads_along r.first r.others r.first n ns n split.0 split.1 split.0 r.needs;
        stands_first = elim (slice_get_cases N.gates r.first).1 [
          | inl inside ↦ (
            take r.first N.gates,
            inside.0,
            drop (r.first + 1) N.gates,
            sym (take-append-drop r.first N.gates) ∙ ap (λ list. take r.first N.gates ++ list) (drop_more N.gates r.first inside.0 inside.1 ∙ ap (λ g. g ∷ drop (r.first + 1) N.gates) inside.3),
            same_Some inside.0.output n (sym (name_at r.first inside.0 inside.2) ∙ split.0),
            λ k d lt among.
                let name = get_or (n ∷ ns) k d in
                let found = place_among driven cycle (n ∷ ns) name at (Contains-get_or (n ∷ ns) k d lt) in
                let least : r.first ≤ found.0 = All-contains (λ g. r.first ≤ g) cycle found.0 r.least found.1 in
                let early : Contains (take r.first driven) name = subst (λ list. Contains list name) (sym (take-map (λ gate. gate.output) r.first N.gates)) among in
                let bound = length-take r.first driven in
                let here : slice_get driven early.0 ≡ Some name =
                slice_get-get_or driven early.0 name (omega (arith, early.1, bound)) ∙ ap Some (sym (get_or-take r.first driven early.0 name (omega (arith, early.1, bound))) ∙ early.2) in
                let same : early.0 ≡ found.0 = once_place bytes_eq bytes_eq-Decides driven early.0 found.0 name once_driven here found.2 in
                absurd (omega (arith, same, least, early.1, bound)),
          )
          | inr past ↦ absurd (omega (arith, past.0, within))
        ];
      }
