-- The least closed partitions other than zero, sifted from those that hold two states together.
use Rattle.std.proofs.Common.{◌≡◌, ℕ, ◌+◌, ◌<◌, ◌≤◌, inl, inr, All, AllPairs, Contains, List, [], ◌∷◌, ◌++◌, length, get_or, sym, ap, ◌∙◌, subst, arith}
use Rattle.std.proofs.lemmas.Bool.{cases_lt}
use Rattle.std.proofs.lemmas.List.{get_or_append_left, get_or_push, get_or_default, length_push}
use Rattle.std.proofs.lemmas.List.Elements.{All-contains, All-push, Contains-append_left, Contains-push}
use Rattle.std.proofs.lemmas.List.Quantifiers.{all_pairs_push}
use Rattle.hs_lattice.specs.Listing.{Lists}
use Rattle.kiss_file.specs.declared.file.KissFile.{KissFile}
use Rattle.partition.specs.Partition.{blocks_of, IsPartition, Le}
use Rattle.partition.specs.Order.{Before}
use Rattle.partition.specs.Laws.Labels.{same_labels}
use Rattle.closed_lattice.specs.ClosedPartitions.{HoldsSome, IsAtom, IsClosedPartition}
use Rattle.closed_lattice.specs.Inner.Generators.{AreGenerators, IsLeastAmong}
use Rattle.partition.specs.Laws.Blocks.{above_by_blocks}

-- What is known after the first i of the found ones.
pub record IsSifting (F : KissFile) (found list : List (List ℕ)) (i : ℕ) : Type 0 where
  pub atoms : All (IsAtom F) list
  pub ascending : AllPairs Before list
  pub earlier : (k : ℕ) (d : List ℕ) → k < length list → (j : ℕ) × (j < i) × (get_or list k d ≡ get_or found j d)
  pub kept : (k : ℕ) (d : List ℕ) → k < i → IsLeastAmong found (get_or found k d) → Contains list (get_or found k d)

pub sifting_none : (F : KissFile) (found : List (List ℕ)) → IsSifting F found [] 0
sifting_none F found = record {
  atoms = λ k d within. absurd (omega arith);
  ascending = λ i j d order within. absurd (omega arith);
  earlier = λ k d within. absurd (omega arith);
  kept = λ k d below least. absurd (omega arith);
}

module _ (F : KissFile) (found : List (List ℕ)) (found_all : AreGenerators F found) where
  -- what no found one is strictly below, no closed one is strictly below
  atom_of : (p : List ℕ) → IsClosedPartition F p → HoldsSome p → IsLeastAmong found p → IsAtom F p
  atom_of p is some least = record {
    closed = is;
    some = some;
    least = λ q q_is (s, t, order, held) below.
        let has = found_all.each s t order (omega (arith, held.1, q_is.0.length)) in
        let under : Le has.0 q = has.2.least q q_is held in
        let above : Le p has.0 = All-contains (λ x. Le x p → Le p x) found has.0 least has.1 (λ u v both. below u v (under u v both)) in
        λ u v both. under u v (above u v both);
  }

  -- each atom was found
  atom_found : (p : List ℕ) → IsAtom F p → Contains found p × IsLeastAmong found p
  atom_found p atom =
      let s = atom.some.0 in
      let t = atom.some.1 in
      let held = atom.some.3 in
      let has = found_all.each s t atom.some.2 (omega (arith, held.1, atom.closed.0.length)) in
      let under : Le has.0 p = has.2.least p atom.closed held in
      let above : Le p has.0 = atom.least has.0 (has.2.lawful, has.2.closed) (s, t, atom.some.2, has.2.together) under in
      let same : has.0 ≡ p = same_labels has.0 p has.2.lawful.numbered atom.closed.0.numbered (has.2.lawful.length ∙ sym atom.closed.0.length) (λ u v. (under u v, above u v)) in
      (subst (Contains found) same has.1, (λ k d within. atom.least (get_or found k d) (found_all.closed k d within) (found_all.some k d within)))

  pub sifting_taken : (list : List (List ℕ)) (i : ℕ) (p : List ℕ) → IsSifting F found list i → i < length found → p ≡ get_or found i p → IsLeastAmong found p → IsSifting F found (list ++ p ∷ []) (i + 1)
  sifting_taken list i p so_far within read least = record {
    atoms = All-push (IsAtom F) list p so_far.atoms (atom_of p (subst (IsClosedPartition F) (sym read) (found_all.closed i p within)) (subst HoldsSome (sym read) (found_all.some i p within)) least);
    ascending = all_pairs_push Before list p so_far.ascending (λ k d inside.
        let before = so_far.earlier k d inside in
        subst (λ (x : List ℕ). Before x p) (sym before.2) (subst (λ (x : List ℕ). Before (get_or found before.0 d) x) (sym (here d)) (found_all.ascending before.0 i d before.1 within)));
    earlier = λ k d inside. elim (cases_lt k (length list)) [
      | inl old ↦ let before = so_far.earlier k d old in (before.0, omega (arith, before.1), get_or_append_left list (p ∷ []) d k old ∙ before.2)
      | inr new ↦ let at : length list ≡ k = omega (arith, length_push list p) in (i, omega arith, get_or_push list p d k at ∙ here d)
    ];
    kept = λ k d below k_least. elim (cases_lt k i) [
      | inl old ↦ Contains-append_left list (p ∷ []) (get_or found k d) (so_far.kept k d old k_least)
      | inr new ↦
          let at : i ≡ k = omega arith in
          subst (Contains (list ++ p ∷ [])) (here d ∙ ap (λ (n : ℕ). get_or found n d) at) (Contains-push list p)
    ];
  }
    where
      here : (d : List ℕ) → p ≡ get_or found i d
      here d = read ∙ get_or_default found i p d within

  pub sifting_left : (list : List (List ℕ)) (i : ℕ) (p : List ℕ) → IsSifting F found list i → i < length found → p ≡ get_or found i p → (IsLeastAmong found p → ⊥) → IsSifting F found list (i + 1)
  sifting_left list i p so_far within read other = record {
    atoms = so_far.atoms;
    ascending = so_far.ascending;
    earlier = λ k d inside. let before = so_far.earlier k d inside in (before.0, omega (arith, before.1), before.2);
    kept = λ k d below least. elim (cases_lt k i) [
      | inl old ↦ so_far.kept k d old least
      | inr new ↦
          let at : k ≡ i = omega arith in
          absurd (other (subst (IsLeastAmong found) (ap (λ (n : ℕ). get_or found n d) at ∙ sym (read ∙ get_or_default found i p d within)) least))
    ];
  }

  pub sifted : (list : List (List ℕ)) (i : ℕ) → IsSifting F found list i → length found ≤ i → Lists Before (IsAtom F) list
  sifted list i all end = record {
    ascending = all.ascending;
    members = all.atoms;
    complete = λ z atom.
        let both = atom_found z atom in
        let k = both.0.0 in
        let read : get_or found k z ≡ z = both.0.2 in
        subst (Contains list) read (all.kept k z (omega (arith, both.0.1)) (subst (IsLeastAmong found) (sym read) both.1));
  }

-- What is_least asks: where no partition up to a place is strictly below p, and the one there has no more blocks, none is.
pub least_so_far : (found : List (List ℕ)) (p q : List ℕ) (i : ℕ) → IsPartition (length p) p → All (IsPartition (length p)) found → AllPairs Before found → i < length found → q ≡ get_or found i q → blocks_of q ≤ blocks_of p
    → ((k : ℕ) (d : List ℕ) → k < i → Le (get_or found k d) p → Le p (get_or found k d)) → IsLeastAmong found p
least_so_far found p q i lawful all ascending within read few so_far k d inside below =
    elim (cases_lt k i) [
      | inl earlier ↦ so_far k d earlier below
      | inr later ↦ above_by_blocks (length p) (get_or found k d) p (all k d inside) lawful below (elim (cases_lt i k) [
        | inl order ↦ elim (ascending i k d order inside) [
          | inl fewer ↦ omega (arith, few, ap blocks_of here, fewer)
          | inr equal ↦ omega (arith, few, ap blocks_of here, equal.0)
        ]
        | inr not_before ↦ let at : i ≡ k = omega arith in omega (arith, few, ap blocks_of (here ∙ ap (λ (n : ℕ). get_or found n d) at))
      ])
    ]
  where
    here : q ≡ get_or found i d
    here = read ∙ get_or_default found i q d within

-- a partition strictly below p
pub not_least : (found : List (List ℕ)) (p q : List ℕ) (i : ℕ) → IsPartition (length p) p → All (IsPartition (length p)) found → i < length found → q ≡ get_or found i q → blocks_of p < blocks_of q → Le q p → IsLeastAmong found p → ⊥
not_least found p q i lawful all within read more le least =
    let is : IsPartition (length p) q = subst (IsPartition (length p)) (sym read) (all i q within) in
    let above : Le p q = subst (Le p) (sym read) (least i q within (subst (λ (x : List ℕ). Le x p) read le)) in
    omega (arith, more, ap blocks_of (same_labels p q lawful.numbered is.numbered (sym is.length) (λ u v. (above u v, le u v))))

-- a partition that is not below p
pub still_least : (found : List (List ℕ)) (p q : List ℕ) (i : ℕ) → i < length found → q ≡ get_or found i q → (Le q p → ⊥)
    → ((k : ℕ) (d : List ℕ) → k < i → Le (get_or found k d) p → Le p (get_or found k d)) → (k : ℕ) (d : List ℕ) → k < i + 1 → Le (get_or found k d) p → Le p (get_or found k d)
still_least found p q i within read not_below so_far k d up_to below =
    elim (cases_lt k i) [
      | inl earlier ↦ so_far k d earlier below
      | inr later ↦
          let at : k ≡ i = omega arith in
          absurd (not_below (subst (λ (x : List ℕ). Le x p) (ap (λ (n : ℕ). get_or found n d) at ∙ sym (read ∙ get_or_default found i q d within)) below))
    ]
