-- Distinct names, copied one after another.
use Rattle.std.proofs.Common.{◌≡◌, ℕ, ◌+◌, ◌<◌, List, [], ◌∷◌, ◌++◌, Contains, length, take, slice_get, Some, sym, ◌∙◌, ap, arith, length-take}
use Rattle.std.proofs.lemmas.List.{get_or-take, take_more}
use Rattle.std.proofs.lemmas.Option.{get_or_from_slice_get, slice_get_within}
use Rattle.kiss_file.specs.Names.{AreDistinct}

pub take_one_more : (names : List (List ℕ)) (i : ℕ) (name : List ℕ) → slice_get names i ≡ Some name → take (i + 1) names ≡ take i names ++ name ∷ []
take_one_more names i name at_i =
    take_more names i name (slice_get_within names i name at_i) ∙ ap (λ (n : List ℕ). take i names ++ n ∷ []) (get_or_from_slice_get names i name name at_i)

-- the name of a number does not stand before it
pub not_yet : (names : List (List ℕ)) (i : ℕ) (name : List ℕ) → AreDistinct names → slice_get names i ≡ Some name → Contains (take i names) name → ⊥
not_yet names i name distinct at_i (k, within, here) =
    let inside : i < length names = slice_get_within names i name at_i in
    let before : k < i = omega (arith, within, length-take i names) in
    distinct k i name before inside
    (sym (get_or-take i names k name before) ∙ here ∙ sym (get_or_from_slice_get names i name name at_i))
