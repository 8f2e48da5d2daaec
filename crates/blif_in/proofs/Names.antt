-- Names that are too long, and names of clocks.
use Rattle.std.proofs.Common.{◌≡◌, ℕ, ◌+◌, ◌-◌, ◌<◌, ◌≤◌, ◌||◌, Bool, true, false, cond, ltb, not, List, [], ◌∷◌, length, get_or, drop, take, suc, add-one, drop-cons, Some, None, sym, ◌∙◌, refl, ap, arith}
use Rattle.std.specs.Prelude.{find}
use Rattle.std.specs.List.{AllByRecursion, list_any}
use Rattle.std.specs.Option.{option_map}
use Rattle.std.specs.Str.{bytes_eq}
use Rattle.std.proofs.lemmas.List.{drop_all, take_all}
use Rattle.net_core.specs.Faults.{names_another}
use Rattle.blif_in.specs.declared.fault.BlifKind.{BlifKind}
use Rattle.blif_in.specs.declared.fault.BlifKind.TheVariants.{OverLimit}
use Rattle.blif_in.specs.declared.fault.NetLimit.TheVariants as over
use Rattle.blif_in.specs.Faults.{long_name}
use Rattle.blif_in.specs.Inner.Standing.{IsClock}
use Rattle.blif_in.specs.Inner.ShortFields.{AreMeasurable}

-- among names of one clock another name is one that differs from it
pub another_clock : (clock name : List ℕ) (names : List (List ℕ)) → IsClock (Some clock) names → names_another names (name ∷ []) ≡ not (bytes_eq name clock)
another_clock clock name [] none = absurd none
another_clock clock name (other ∷ names) all = all_differ other names all where
  or_none : (b : Bool) → (b || false) ≡ b
  or_none true = refl
  or_none false = refl

  twice : (a b : Bool) → (b || false) ≡ a → ((a || b) || false) ≡ a
  twice true b h = refl
  twice false b h = h

  all_differ : (other : List ℕ) (names : List (List ℕ)) → AllByRecursion (λ o. o ≡ clock) (other ∷ names) → (list_any (λ o. not (bytes_eq name o)) (other ∷ names) || false) ≡ not (bytes_eq name clock)
  all_differ other [] (is, all) = or_none _ ∙ or_none _ ∙ ap (λ o. not (bytes_eq name o)) is
  all_differ other (next ∷ names) (is, all) = ap (λ o. (not (bytes_eq name o) || list_any (λ p. not (bytes_eq name p)) (next ∷ names)) || false) is ∙ twice (not (bytes_eq name clock)) (list_any (λ p. not (bytes_eq name p)) (next ∷ names)) (all_differ next names all)

-- a name that is not too long
long_later : (name : List ℕ) (names : List (List ℕ)) → long_name (name ∷ []) ≡ None → long_name (name ∷ names) ≡ long_name names
long_later name names h = by (ltb 64 (length name)) h where
  told : List ℕ → BlifKind
  told n = OverLimit over.NameBytes (length n)

  by : (long : Bool) → option_map told (cond long (Some name) None) ≡ None → option_map told (cond long (Some name) (find (λ n. ltb 64 (length n)) names)) ≡ option_map told (find (λ n. ltb 64 (length n)) names)
  by true none = absurd (cc)
  by false none = refl

-- a name that is too long is the first one that is
pub long_first : (name : List ℕ) (names : List (List ℕ)) (kind : BlifKind) → long_name (name ∷ []) ≡ Some kind → long_name (name ∷ names) ≡ Some kind
long_first name names kind h = by (ltb 64 (length name)) h where
  told : List ℕ → BlifKind
  told n = OverLimit over.NameBytes (length n)

  by : (long : Bool) → option_map told (cond long (Some name) None) ≡ Some kind → option_map told (cond long (Some name) (find (λ n. ltb 64 (length n)) names)) ≡ Some kind
  by true some = some
  by false some = absurd (cc)

name_at : (names : List (List ℕ)) (k : ℕ) (name : List ℕ) → k < length names → name ≡ get_or names k name → drop k names ≡ name ∷ drop (k + 1) names
name_at names k name lt is = drop-cons names k name lt ∙ ap (λ (first : List ℕ). first ∷ drop (suc k) names) (sym is) ∙ ap (λ n. name ∷ drop n names) (sym (add-one k))

-- one name more that is not too long
pub long_more : (names : List (List ℕ)) (k : ℕ) (name : List ℕ) → long_name (drop k names) ≡ long_name names → k < length names → name ≡ get_or names k name → long_name (name ∷ []) ≡ None → long_name (drop (k + 1) names) ≡ long_name names
long_more names k name so_far lt is none = sym (ap long_name (name_at names k name lt is) ∙ long_later name (drop (k + 1) names) none) ∙ so_far

-- one name more that is too long
pub long_here : (names : List (List ℕ)) (k : ℕ) (name : List ℕ) (kind : BlifKind) → long_name (drop k names) ≡ long_name names → k < length names → name ≡ get_or names k name → long_name (name ∷ []) ≡ Some kind → long_name names ≡ Some kind
long_here names k name kind so_far lt is some = sym so_far ∙ ap long_name (name_at names k name lt is) ∙ long_first name (drop (k + 1) names) kind some

-- all names are read
pub long_none : (names : List (List ℕ)) (k : ℕ) → long_name (drop k names) ≡ long_name names → length names ≤ k → long_name names ≡ None
long_none names k so_far all = sym so_far ∙ ap long_name (drop_all k names all)

-- what is behind the first name is measurable where all is
pub measurable_tail : (name : List ℕ) (names : List (List ℕ)) → AreMeasurable (name ∷ names) → AreMeasurable names
measurable_tail name names all k d lt = all (suc k) d (omega arith)

-- the first field and those behind it are all fields
pub first_and_rest : (fields : List (List ℕ)) (word first : List ℕ) → 1 ≤ length fields → word ≡ first → first ≡ get_or fields 0 first → fields ≡ word ∷ take (length fields - 1) (drop 1 fields)
first_and_rest [] word first some same is = absurd (omega arith)
first_and_rest (field ∷ fields) word first some same is =
    let count : length (field ∷ fields) - 1 ≡ length fields = omega arith in
    sym (ap (λ n. word ∷ take n fields) count ∙ ap (λ (more : List (List ℕ)). word ∷ more) (take_all (length fields) fields (omega arith)) ∙ ap (λ w. w ∷ fields) (same ∙ is))
