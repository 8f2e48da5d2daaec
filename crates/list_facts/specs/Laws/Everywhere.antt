-- What holds of each item of a list, by places (`All`) or by recursion (`AllByRecursion`).
use Rattle.std.proofs.Common.{◌≡◌, ℕ, ◌<◌, Option, Some, None, IfSome, All, List, [], ◌∷◌, ◌++◌, length, map, get_or, slice_get, drop, ap, ◌∙◌, subst, arith, refl}
use Rattle.std.specs.List.{AllByRecursion, cons_option, filter_map}
use Rattle.std.proofs.lemmas.List.{get_or-map, length-map}
use Rattle.std.proofs.lemmas.List.Elements.{All-cons, All-head, All-nil, All-tail, recursion_from_All}
use Rattle.std.proofs.lemmas.Option.{get_or_from_slice_get, slice_get_within}

-- ---- by places
pub all_at : {X : Type 0} (P : X → Type 0) (xs : List X) (k : ℕ) (x : X) → All P xs → slice_get xs k ≡ Some x → P x
all_at P xs k x all is = subst P (get_or_from_slice_get xs k x x is) (all k x (slice_get_within xs k x is))

pub all_one : {X : Type 0} (P : X → Type 0) (x : X) → P x → All P (x ∷ [])
all_one P x p = All-cons P x [] p (All-nil P)

-- what holds of each value of a function holds of what it is the value of
pub all_from_map : {X Y : Type 0} (P : Y → Type 0) (f : X → Y) (xs : List X) → All P (map f xs) → All (λ x. P (f x)) xs
all_from_map P f xs all k d lt =
    let within : k < length (map f xs) = omega (arith, lt, length-map xs f) in
    subst P (get_or-map f xs k d (f d) lt) (all k (f d) within)

-- what holds of each value that a partial function gives
pub all_given : {X Y : Type 0} (P : Y → Type 0) (f : X → Option Y) (xs : List X) → All (λ x. IfSome (f x) P) xs → All P (filter_map f xs)
all_given P f [] all = All-nil P
all_given {Y = Y} P f (x ∷ xs) all = put (f x) (All-head (λ x. IfSome (f x) P) x xs all) (all_given P f xs (All-tail (λ x. IfSome (f x) P) x xs all))
  where
    put : (o : Option Y) → IfSome o P → All P (filter_map f xs) → All P (cons_option o (filter_map f xs))
    put None here rest = rest
    put (Some y) here rest = All-cons P y (filter_map f xs) here rest

-- two functions that agree on each item have the same values
pub map_same : {X Y : Type 0} (f g : X → Y) (xs : List X) → All (λ x. f x ≡ g x) xs → map f xs ≡ map g xs
map_same {X} {Y} f g xs all = along xs (recursion_from_All (λ x. f x ≡ g x) xs all)
  where
    along : (xs : List X) → AllByRecursion (λ x. f x ≡ g x) xs → map f xs ≡ map g xs
    along [] h = refl
    along (x ∷ xs) h = ap (λ (y : Y). y ∷ map f xs) h.0 ∙ ap (λ (ys : List Y). g x ∷ ys) (along xs h.1)

-- ---- by recursion
pub each_append : {X : Type 0} (P : X → Type 0) (xs ys : List X) → AllByRecursion P xs → AllByRecursion P ys → AllByRecursion P (xs ++ ys)
each_append P [] ys p q = q
each_append P (x ∷ xs) ys (h, p) q = (h, each_append P xs ys p q)

pub each_weaker : {X : Type 0} (P Q : X → Type 0) → ((x : X) → P x → Q x) → (xs : List X) → AllByRecursion P xs → AllByRecursion Q xs
each_weaker P Q f [] p = tt
each_weaker P Q f (x ∷ xs) (h, p) = (f x h, each_weaker P Q f xs p)

-- what the images of two lists tell of their items, item by item
pub images_once : {X Y Z : Type 0} (f : X → Y) (g : X → Z) (P : X → Type 0) → ((x y : X) → P x → P y → f x ≡ f y → g x ≡ g y) → (xs ys : List X) → AllByRecursion P xs → AllByRecursion P ys → map f xs ≡ map f ys → map g xs ≡ map g ys
images_once f g P once [] [] p q e = refl
images_once f g P once [] (y ∷ ys) p q e = let none : 0 ≡ length (map f (y ∷ ys)) = ap length e in absurd (omega (arith, none))
images_once f g P once (x ∷ xs) [] p q e = let none : length (map f (x ∷ xs)) ≡ 0 = ap length e in absurd (omega (arith, none))
images_once {X} {Y} {Z} f g P once (x ∷ xs) (y ∷ ys) (p, ps) (q, qs) e =
    let first : f x ≡ f y = ap (λ (t : List Y). get_or t 0 (f x)) e in
    ap (λ (z : Z). z ∷ map g xs) (once x y p q first) ∙ ap (λ (zs : List Z). g y ∷ zs) (images_once f g P once xs ys ps qs (ap (λ (t : List Y). drop 1 t) e))
