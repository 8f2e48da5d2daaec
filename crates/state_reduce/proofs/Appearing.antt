-- Names with their places among them are numbered by first appearance.
use Rattle.std.proofs.Common.{◌≡◌, ℕ, zero, suc, ◌+◌, ◌<◌, ◌≤◌, inl, inr, Bool, true, false, cond, Some, List, [], ◌∷◌, ◌++◌, Contains, drop, length, get_or, map, slice_get, take, refl, sym, ap, ◌∙◌, subst, arith, append-nil, append_assoc}
use Rattle.std.specs.List.{position_or_len}
use Rattle.std.specs.Str.{bytes_eq}
use Rattle.std.proofs.lemmas.Bool.{cases_Bool}
use Rattle.std.proofs.lemmas.List.{get_or-map, length-map, take-append-drop, take-map, take_more}
use Rattle.std.proofs.lemmas.List.Elements.{Contains-get_or}
use Rattle.std.proofs.lemmas.Option.{slice_get-get_or}
use Rattle.list_facts.specs.Laws.Members.{Contains-map}
use Rattle.kiss2.specs.Inner.ReaderState.{once_after}
use Rattle.kiss_file.specs.Names.{AreDistinct}
use Rattle.kiss2.specs.Standing.{each_once}
use Rattle.kiss2.specs.Laws.Finding.{contained_from_test}
use Rattle.kiss2.specs.Laws.Once.{among, distinct_from_once, each_once-append, once-each_once}
use Rattle.state_reduce.proofs.Names.{has_once, place_is}

-- names that are added go behind those that are there
pub once_front : (names more : List (List ℕ)) → (rest : List (List ℕ)) × (once_after names more ≡ names ++ rest)
once_front names [] = ([], sym (append-nil names))
once_front names (x ∷ more) = put (among x names) (once_front names more) (once_front (names ++ x ∷ []) more) where
  put : (there : Bool) → (rest : List (List ℕ)) × (once_after names more ≡ names ++ rest) → (rest : List (List ℕ)) × (once_after (names ++ x ∷ []) more ≡ (names ++ x ∷ []) ++ rest)
      → (rest : List (List ℕ)) × (once_after (cond there names (names ++ x ∷ [])) more ≡ names ++ rest)
  put true kept added = kept
  put false kept added = (x ∷ added.0, added.1 ∙ append_assoc names (x ∷ []) added.0)

pub get_left : (xs ys : List (List ℕ)) (i : ℕ) → i < length xs → slice_get (xs ++ ys) i ≡ slice_get xs i
get_left [] ys i lt = absurd (omega arith)
get_left (x ∷ xs) ys zero lt = refl
get_left (x ∷ xs) ys (suc i) lt = get_left xs ys i (omega arith)

pub get_middle : (xs : List (List ℕ)) (y : List ℕ) (ys : List (List ℕ)) → slice_get (xs ++ y ∷ ys) (length xs) ≡ Some y
get_middle [] y ys = refl
get_middle (x ∷ xs) y ys = get_middle xs y ys

pub at_some_place : (names : List (List ℕ)) (name : List ℕ) → Contains names name → (k : ℕ) × (k < length names) × (slice_get names k ≡ Some name)
at_some_place names name (k, within, here) = (k, within, slice_get-get_or names k name within ∙ ap (λ (n : List ℕ). Some n) here)

pub distinct_once : (names : List (List ℕ)) → AreDistinct (each_once names)
distinct_once names = distinct_from_once (each_once names) (once-each_once names)

module _ (names : List (List ℕ)) where
  -- the place of a name among the names, each once
  abbrev pub place : List ℕ → ℕ
  place name = position_or_len (bytes_eq name) (each_once names)

  pub place_at : (name : List ℕ) (k : ℕ) → slice_get (each_once names) k ≡ Some name → place name ≡ k
  place_at name k here = place_is (each_once names) name k (distinct_once names) here

  -- each number is the place of a name
  pub each_place : (s : ℕ) → s < length (each_once names) → Contains (map place names) s
  each_place s within =
      let name : List ℕ = get_or (each_once names) s [] in
      let there : Contains names name = has_once names name (Contains-get_or (each_once names) s [] within) in
      subst (Contains (map place names)) (place_at name s (slice_get-get_or (each_once names) s [] within)) (Contains-map place names name there)

  module _ (k : ℕ) (within : k < length names) where
    abbrev name : List ℕ
    name = get_or names k []

    abbrev before : List (List ℕ)
    before = each_once (take k names)

    parts : names ≡ (take k names ++ name ∷ []) ++ drop (k + 1) names
    parts = sym (take-append-drop (k + 1) names) ∙ ap (λ (front : List (List ℕ)). front ++ drop (k + 1) names) (take_more names k [] within)

    front : (rest : List (List ℕ)) × (each_once names ≡ cond (among name before) before (before ++ name ∷ []) ++ rest)
    front =
        let more = once_front (each_once (take k names ++ name ∷ [])) (drop (k + 1) names) in (
          more.0,
          ap each_once parts ∙ each_once-append (take k names ++ name ∷ []) (drop (k + 1) names) ∙ more.1 ∙ ap (λ (ns : List (List ℕ)). ns ++ more.0) (each_once-append (take k names) (name ∷ [])),
        )

    -- the name stands among those before it, or right behind them
    bound : place name ≤ length before
    bound =
        elim (cases_Bool (among name before)) [
          | inl there ↦
              let split : each_once names ≡ before ++ (front).0 = (front).1 ∙ ap (λ t. cond t before (before ++ name ∷ []) ++ (front).0) there in
              let known = at_some_place before name (contained_from_test before name there) in
              let here : slice_get (each_once names) known.0 ≡ Some name = ap (λ (ns : List (List ℕ)). slice_get ns known.0) split ∙ get_left before (front).0 known.0 known.1 ∙ known.2 in
              omega (arith, place_at name known.0 here, known.1)
          | inr absent ↦
              let split : each_once names ≡ before ++ name ∷ (front).0 = (front).1 ∙ ap (λ t. cond t before (before ++ name ∷ []) ++ (front).0) absent ∙ append_assoc before (name ∷ []) (front).0 in
              let here : slice_get (each_once names) (length before) ≡ Some name = ap (λ (ns : List (List ℕ)). slice_get ns (length before)) split ∙ get_middle before name (front).0 in
              omega (arith, place_at name (length before) here)
        ]

    in_front : (s : ℕ) → s < length before → slice_get (each_once names) s ≡ slice_get before s
    in_front s lt = ap (λ (ns : List (List ℕ)). slice_get ns s) (front).1 ∙ either (among name before)
      where
        either : (t : Bool) → slice_get (cond t before (before ++ name ∷ []) ++ (front).0) s ≡ slice_get before s
        either true = get_left before (front).0 s lt
        either false = ap (λ (ns : List (List ℕ)). slice_get ns s) (append_assoc before (name ∷ []) (front).0) ∙ get_left before (name ∷ (front).0) s lt

    -- each lesser number has appeared before
    lesser : (s : ℕ) → s < place name → Contains (take k (map place names)) s
    lesser s lt =
        let low : place name ≤ length before = bound in
        let inside : s < length before = omega arith in
        let other : List ℕ = get_or before s [] in
        let here : slice_get (each_once names) s ≡ Some other = in_front s inside ∙ slice_get-get_or before s [] inside in
        let there : Contains (take k names) other = has_once (take k names) other (Contains-get_or before s [] inside) in
        subst (λ (xs : List ℕ). Contains xs s) (sym (take-map place k names))
        (subst (Contains (map place (take k names))) (place_at other s here) (Contains-map place (take k names) other there))

  pub in_order : (k s : ℕ) → k < length (map place names) → s < get_or (map place names) k 0 → Contains (take k (map place names)) s
  in_order k s within lt =
      let inside : k < length names = omega (arith, length-map names place) in
      lesser k inside s (omega (arith, get_or-map place names k [] 0 inside))
