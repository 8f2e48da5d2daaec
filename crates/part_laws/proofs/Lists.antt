-- Lists that a relation zips.
use Rattle.std.proofs.Common.{◌≡◌, inl, inr, All, Contains, List, [], ◌∷◌, map, refl, subst}
use Rattle.std.specs.List.{AllZip}
use Rattle.std.proofs.lemmas.List.Elements.{All-cons, All-nil}
use Rattle.list_facts.specs.Laws.Members.{Contains-cons, Contains-here, Contains-none, Contains-there}

-- the other item for one of the first list
pub zipped : {X Y : Type 0} (R : X → Y → Type 0) (xs : List X) (ys : List Y) (x : X) → AllZip R xs ys → Contains xs x → (y : Y) × Contains ys y × R x y
zipped R [] [] x all among = absurd (Contains-none x among)
zipped R [] (w ∷ ys) x all among = absurd all
zipped R (z ∷ xs) [] x all among = absurd all
zipped {Y = Y} R (z ∷ xs) (w ∷ ys) x all among =
    elim (Contains-cons z x xs among) [
      | inl here ↦ (w, Contains-here w ys, subst (λ v. R v w) here all.0)
      | inr there ↦
          let found : (y : Y) × Contains ys y × R x y = zipped R xs ys x all.1 there in
          (found.0, Contains-there w found.0 ys found.1, found.2)
    ]

-- what the relation says of each item of the second list
pub all_right : {X Y : Type 0} (R : X → Y → Type 0) (P : Y → Type 0) (xs : List X) (ys : List Y) → ((x : X) (y : Y) → R x y → P y) → AllZip R xs ys → All P ys
all_right R P [] [] says all = All-nil P
all_right R P [] (w ∷ ys) says all = absurd all
all_right R P (z ∷ xs) [] says all = absurd all
all_right R P (z ∷ xs) (w ∷ ys) says all = All-cons P w ys (says z w all.0) (all_right R P xs ys says all.1)

-- a relation with the images of the second list
pub zip_mapped : {X Y Z : Type 0} (R : X → Y → Type 0) (S : X → Z → Type 0) (f : Y → Z) (xs : List X) (ys : List Y) → ((x : X) (y : Y) → R x y → S x (f y)) → AllZip R xs ys → AllZip S xs (map f ys)
zip_mapped R S f [] [] says all = tt
zip_mapped R S f [] (w ∷ ys) says all = absurd all
zip_mapped R S f (z ∷ xs) [] says all = absurd all
zip_mapped R S f (z ∷ xs) (w ∷ ys) says all = (says z w all.0, zip_mapped R S f xs ys says all.1)

-- ---- lists that are one
cons_same : {X : Type 0} (x y : X) (xs ys : List X) → x ≡ y → xs ≡ ys → ◌≡◌ {A = List X} (x ∷ xs) (y ∷ ys)
cons_same x y xs ys head tail = cc

-- two lists that the relation zips with one list are one, where it gives each item of that list one item
pub zip_once : {X Y : Type 0} (R : X → Y → Type 0) (xs : List X) (ys zs : List Y) → ((x : X) → Contains xs x → (y z : Y) → R x y → R x z → y ≡ z) → AllZip R xs ys → AllZip R xs zs → ys ≡ zs
zip_once R [] [] [] once one two = refl
zip_once R [] [] (z ∷ zs) once one two = absurd two
zip_once R [] (y ∷ ys) zs once one two = absurd one
zip_once R (x ∷ xs) [] zs once one two = absurd one
zip_once R (x ∷ xs) (y ∷ ys) [] once one two = absurd two
zip_once R (x ∷ xs) (y ∷ ys) (z ∷ zs) once one two =
    cons_same y z ys zs (once x (Contains-here x xs) y z one.0 two.0)
    (zip_once R xs ys zs (λ w among. once w (Contains-there x w xs among)) one.1 two.1)
