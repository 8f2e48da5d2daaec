-- A text of lines, with the line of one item more.
use Rattle.std.proofs.Common.{◌≡◌, ℕ, ◌+◌, ◌<◌, List, [], ◌∷◌, ◌++◌, length, take, get_or, map, refl, sym, ap, ◌∙◌}
use Rattle.std.specs.List.{flat_map}
use Rattle.list_facts.specs.Laws.Appending.{item_more}

pub flat_map-map : {X Y : Type 0} (f : Y → List ℕ) (g : X → Y) (xs : List X) → flat_map f (map g xs) ≡ flat_map (λ x. f (g x)) xs
flat_map-map f g [] = refl
flat_map-map f g (x ∷ xs) = ap (λ (t : List ℕ). f (g x) ++ t) (flat_map-map f g xs)

pub seen_more : {X Y : Type 0} (f : Y → List ℕ) (g : X → Y) (start text new : List ℕ) (xs : List X) (i : ℕ) (x : X) → i < length xs → get_or xs i x ≡ x → text ≡ start ++ flat_map f (map g (take i xs)) → new ≡ text ++ f (g x) → new ≡ start ++ flat_map f (map g (take (i + 1) xs))
seen_more f g start text new xs i x within is before pushed =
    item_more (λ x. f (g x)) start text new xs i x within is (before ∙ ap (λ (t : List ℕ). start ++ t) (flat_map-map f g (take i xs))) pushed
    ∙ ap (λ (t : List ℕ). start ++ t) (sym (flat_map-map f g (take (i + 1) xs)))
