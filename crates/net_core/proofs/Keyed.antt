-- The places of names in a list, and a map that gets one more name.
use Rattle.std.proofs.Common.{◌≡◌, ℕ, suc, ◌+◌, add-zero, Bool, true, false, cond, List, [], ◌∷◌, ◌++◌, length, take, Contains, Option, Some, None, Vec, BTreeMap, nat_cmp, is_eq, slice_get, IfSome, IfNone, inl, inr, sym, ◌∙◌, refl, ap, subst, arith}
use Rattle.std.specs.BTreeMap.{UpdatesBy, is_at}
use Rattle.std.specs.Cmp.{eq_by_cmp_equiv}
use Rattle.std.specs.Cmp.Lexicographic.{slice_cmp, nat_list_cmp_total}
use Rattle.std.specs.List.{position_from}
use Rattle.std.specs.Map.{AreApart, IsKeyTest, KeepsOthers, lookup}
use Rattle.std.specs.Str.{bytes_eq}
use Rattle.std.proofs.lemmas.Bool.{false_from_ne_true, false≢true}
use Rattle.std.proofs.lemmas.Cmp.{nat_list_eq_equiv}
use Rattle.std.proofs.lemmas.Map.Text.{is_eq-slice_cmp}
use Rattle.std.proofs.lemmas.Option.{none-some, same_Some}
use Rattle.list_facts.specs.Laws.Members.{Contains-cons, Contains-here, Contains-none, Contains-there}
use Rattle.net_core.specs.Inner.NameNumbers.{AreKeyed, number_of}
use Rattle.net_core.specs.Laws.Members.{is_same_name, same_name}

-- the list before its last item
pub front_taken : {X : Type 0} (xs : List X) (x : X) → take (length xs) (xs ++ x ∷ []) ≡ xs
front_taken [] x = refl
front_taken (y ∷ ys) x = ap (λ list. y ∷ list) (front_taken ys x)

module _ (name : List ℕ) where
  placed : (names : List (List ℕ)) (i k : ℕ) → position_from (bytes_eq name) i names ≡ Some k → (j : ℕ) × (k ≡ i + j) × (slice_get names j ≡ Some name)
  placed [] i k is = absurd (none-some k is)
  placed (x ∷ xs) i k is =
      elim (bytes_eq name x) as (λ b. bytes_eq name x ≡ b → cond b (Some i) (position_from (bytes_eq name) (i + 1) xs) ≡ Some k → (j : ℕ) × (k ≡ i + j) × (slice_get (x ∷ xs) j ≡ Some name)) [
        | true ↦ λ same found. (0, sym (same_Some i k found) ∙ sym (add-zero i), ap Some (sym (same_name name x same)))
        | false ↦ λ other found. let later = placed xs (i + 1) k found in (suc later.0, omega (arith, later.1), later.2)
      ] refl is

  absent : (names : List (List ℕ)) (i : ℕ) → position_from (bytes_eq name) i names ≡ None → Contains names name → ⊥
  absent [] i is h = Contains-none name h
  absent (x ∷ xs) i is h =
      elim (bytes_eq name x) as (λ b. bytes_eq name x ≡ b → cond b (Some i) (position_from (bytes_eq name) (i + 1) xs) ≡ None → ⊥) [
        | true ↦ λ same found. none-some i (sym found)
        | false ↦ λ other found.
            elim (Contains-cons x name xs h) [
              | inl here ↦ false≢true (sym other ∙ is_same_name name x (sym here))
              | inr there ↦ absent xs (i + 1) found there
            ]
      ] refl is

  -- the place of a name after a new name was added
  place_after : (names : List (List ℕ)) (new : List ℕ) (i : ℕ) → (Contains names new → ⊥)
      → position_from (bytes_eq name) i (names ++ new ∷ []) ≡ cond (bytes_eq new name) (Some (i + length names)) (position_from (bytes_eq name) i names)
  place_after [] new i none =
      ap (λ b. cond b (Some i) None) (nat_list_eq_equiv.symm name new) ∙ ap (λ n. cond (bytes_eq new name) (Some n) None) (sym (add-zero i))
  place_after (x ∷ xs) new i none =
      elim (bytes_eq name x) as (λ b. bytes_eq name x ≡ b → cond b (Some i) (position_from (bytes_eq name) (i + 1) (xs ++ new ∷ [])) ≡ cond (bytes_eq new name) (Some (i + length (x ∷ xs))) (cond b (Some i) (position_from (bytes_eq name) (i + 1) xs))) [
        | true ↦ λ same.
            let differs : bytes_eq new name ≡ false =
            false_from_ne_true _ (λ is. none (subst (λ n. Contains (x ∷ xs) n) (sym (same_name new name is ∙ same_name name x same)) (Contains-here x xs))) in
            sym (ap (λ b. cond b (Some (i + length (x ∷ xs))) (Some i)) differs)
        | false ↦ λ other.
            place_after xs new (i + 1) (λ h. none (Contains-there x new xs h))
            ∙ ap (λ n. cond (bytes_eq new name) (Some n) (position_from (bytes_eq name) (i + 1) xs)) (omega arith)
      ] refl

module _ {K X : Type 0} (eq : K → K → Bool) (test other : K → Bool) (old new : List (K × X)) where
  others_kept : KeepsOthers eq test old new → IsKeyTest eq other → AreApart test other → lookup other new ≡ lookup other old
  unfolding KeepsOthers
  others_kept h = h other

apart_in_order : (a b key : List ℕ) → bytes_eq a b ≡ false → is_eq (slice_cmp nat_cmp a key) ≡ true → is_eq (slice_cmp nat_cmp b key) ≡ false
apart_in_order a b key differ is =
    is_eq-slice_cmp b key ∙ (nat_list_eq_equiv.symm b key ∙ (sym (nat_list_eq_equiv.congr a key b (sym (is_eq-slice_cmp a key) ∙ is)) ∙ differ))

-- the map has the new value at the key, and its own at other keys
number_after : {A : Type 0} (old new : BTreeMap (Vec ℕ A) ℕ) (key : List ℕ) (number : Option ℕ) → UpdatesBy (λ x y. slice_cmp nat_cmp x.items y.items) (λ y. slice_cmp nat_cmp key y.items) old new number
    → (name : List ℕ) → number_of new name ≡ cond (bytes_eq key name) number (number_of old name)
number_after old new key number h name =
    elim (bytes_eq key name) as (λ b. bytes_eq key name ≡ b → number_of new name ≡ cond b number (number_of old name)) [
      | true ↦ λ same. subst (λ n. number_of new n ≡ number) (same_name key name same) h.1
      | false ↦ λ differ.
          others_kept _ _ _ old.entries new.entries h.3 (λ x y. (eq_by_cmp_equiv nat_list_cmp_total).congr name x.items y.items) (λ k. apart_in_order key name k.items differ)
    ] refl

module _ {A : Type 0} (names : List (List ℕ)) (numbers : BTreeMap (Vec ℕ A) ℕ) (keyed : AreKeyed names numbers) (name : List ℕ) where
  pub number_some : (number : Option ℕ) → number ≡ number_of numbers name → IfSome number (λ n. slice_get names n ≡ Some name)
  number_some None is = tt
  number_some (Some n) is =
      let found = placed name names 0 n (sym (is ∙ keyed name)) in
      subst (λ k. slice_get names k ≡ Some name) (sym (found.1 ∙ omega arith)) found.2

  pub number_none : (number : Option ℕ) → number ≡ number_of numbers name → IfNone number (Contains names name → ⊥)
  number_none None is = absent name names 0 (sym (is ∙ keyed name))
  number_none (Some n) is = tt

  -- the map of the same entries
  pub keyed_same : (new : BTreeMap (Vec ℕ A) ℕ) → new.entries ≡ numbers.entries → AreKeyed names new
  keyed_same new same other = ap (λ entries. lookup (is_at (λ y. slice_cmp nat_cmp other y.items)) entries) same ∙ keyed other

  -- a new name gets the next number
  pub keyed_after : (new : BTreeMap (Vec ℕ A) ℕ) → (Contains names name → ⊥) → UpdatesBy (λ x y. slice_cmp nat_cmp x.items y.items) (λ y. slice_cmp nat_cmp name y.items) numbers new (Some (length names))
      → AreKeyed (names ++ name ∷ []) new
  keyed_after new none updates other =
      number_after numbers new name (Some (length names)) updates other
      ∙ (ap (λ n. cond (bytes_eq name other) (Some (length names)) n) (keyed other) ∙ sym (place_after other names name 0 none ∙ ap (λ n. cond (bytes_eq name other) (Some n) (position_from (bytes_eq other) 0 names)) (omega arith)))
