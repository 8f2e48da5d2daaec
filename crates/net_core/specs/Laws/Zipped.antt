-- Two lists item by item.
use Rattle.std.proofs.Common.{◌≡◌, ℕ, zero, suc, ◌<◌, List, [], ◌∷◌, ◌++◌, get_or, length, refl, ap, arith}
use Rattle.std.specs.List.{AllZip}

-- one more item on either side
pub zip_push : {A B : Type 0} (R : A → B → Type 0) (xs : List A) (ys : List B) (x : A) (y : B) → AllZip R xs ys → R x y → AllZip R (xs ++ x ∷ []) (ys ++ y ∷ [])
zip_push R [] [] x y zip r = (r, tt)
zip_push R [] (b ∷ ys) x y zip r = absurd zip
zip_push R (a ∷ xs) [] x y zip r = absurd zip
zip_push R (a ∷ xs) (b ∷ ys) x y (here, zip) r = (here, zip_push R xs ys x y zip r)

pub zip_lengths : {A B : Type 0} (R : A → B → Type 0) (xs : List A) (ys : List B) → AllZip R xs ys → length xs ≡ length ys
zip_lengths R [] [] zip = refl
zip_lengths R [] (b ∷ ys) zip = absurd zip
zip_lengths R (a ∷ xs) [] zip = absurd zip
zip_lengths R (a ∷ xs) (b ∷ ys) (here, zip) = ap suc (zip_lengths R xs ys zip)

pub zip_at : {A B : Type 0} (R : A → B → Type 0) (xs : List A) (ys : List B) (i : ℕ) (a : A) (b : B) → AllZip R xs ys → i < length xs → R (get_or xs i a) (get_or ys i b)
zip_at R [] ys i a b zip lt = absurd (omega arith)
zip_at R (x ∷ xs) [] i a b zip lt = absurd zip
zip_at R (x ∷ xs) (y ∷ ys) zero a b (here, zip) lt = here
zip_at R (x ∷ xs) (y ∷ ys) (suc i) a b (here, zip) lt = zip_at R xs ys i a b zip (omega arith)
