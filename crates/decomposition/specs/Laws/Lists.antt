-- When two lists are one.
use Rattle.std.proofs.Common.{◌≡◌, ◌↔◌, ℕ, zero, suc, ◌+◌, ◌<◌, ◌≤◌, Contains, List, [], ◌∷◌, Some, length, get_or, slice_get, refl, sym, subst, arith}
use Rattle.std.proofs.lemmas.List.Kept.{AllPairs-from_increasing}
use Rattle.std.proofs.lemmas.Option.{same_Some}
use Rattle.std.specs.List.{AllZip}
use Rattle.std.specs.List.Sorted.{IsStrictlyIncreasing}

-- a relation of the items at each place
pub zip_at : {X : Type 0} (R : X → X → Type 0) (xs ys : List X) → length xs ≡ length ys → ((i : ℕ) (x y : X) → slice_get xs i ≡ Some x → slice_get ys i ≡ Some y → R x y) → AllZip R xs ys
zip_at R [] [] size each = tt
zip_at R [] (y ∷ ys) size each = absurd (omega (arith, size))
zip_at R (x ∷ xs) [] size each = absurd (omega (arith, size))
zip_at R (x ∷ xs) (y ∷ ys) size each = (each 0 x y refl refl, zip_at R xs ys (omega (arith, size)) (λ i. each (suc i)))

pub zip_each : {X : Type 0} (R : X → X → Type 0) (xs ys : List X) → AllZip R xs ys → (i : ℕ) (x y : X) → slice_get xs i ≡ Some x → slice_get ys i ≡ Some y → R x y
zip_each {X = X} R [] [] all i x y there there_too = cc
zip_each {X = X} R [] (z ∷ ys) all i x y there there_too = absurd all
zip_each {X = X} R (z ∷ xs) [] all i x y there there_too = absurd all
zip_each {X = X} R (z ∷ xs) (w ∷ ys) all zero x y there there_too = subst (λ (v : X). R v y) (same_Some z x there) (subst (λ (v : X). R z v) (same_Some w y there_too) all.0)
zip_each {X = X} R (z ∷ xs) (w ∷ ys) all (suc i) x y there there_too = zip_each {X = X} R xs ys all.1 i x y there there_too

cons_same : {X : Type 0} (x y : X) (xs ys : List X) → x ≡ y → xs ≡ ys → ◌≡◌ {A = List X} (x ∷ xs) (y ∷ ys)
cons_same x y xs ys head tail = cc

-- lists with the same items at each place
pub same_items : {X : Type 0} (xs ys : List X) → length xs ≡ length ys → ((i : ℕ) (x y : X) → slice_get xs i ≡ Some x → slice_get ys i ≡ Some y → x ≡ y) → xs ≡ ys
same_items [] [] size each = refl
same_items [] (y ∷ ys) size each = absurd (omega (arith, size))
same_items (x ∷ xs) [] size each = absurd (omega (arith, size))
same_items (x ∷ xs) (y ∷ ys) size each = cons_same x y xs ys (each 0 x y refl refl) (same_items xs ys (omega (arith, size)) (λ i. each (suc i)))

rest_ascends : (c : ℕ) (rest : List ℕ) → IsStrictlyIncreasing (c ∷ rest) → IsStrictlyIncreasing rest
rest_ascends c rest up k within =
    let next : suc k + 1 ≡ suc (k + 1) = omega arith in
    subst (λ (j : ℕ). get_or rest k 0 < get_or (c ∷ rest) j 0) next (up (suc k) (omega (arith, within)))

head_below : (c : ℕ) (rest : List ℕ) (d : ℕ) → IsStrictlyIncreasing (c ∷ rest) → Contains rest d → c < d
head_below c rest d up is =
    subst (λ (e : ℕ). c < e) is.2 (AllPairs-from_increasing (c ∷ rest) up 0 (suc is.0) d (omega arith) (omega (arith, is.1)))

head_least : (c : ℕ) (rest : List ℕ) (d : ℕ) → IsStrictlyIncreasing (c ∷ rest) → Contains (c ∷ rest) d → c ≤ d
head_least c rest d up (zero, within, is) = omega (arith, is)
head_least c rest d up (suc k, within, is) = omega (arith, head_below c rest d up (k, omega (arith, within), is))

later : (c : ℕ) (rest : List ℕ) (d : ℕ) → c < d → Contains (c ∷ rest) d → Contains rest d
later c rest d below (zero, within, is) = absurd (omega (arith, is, below))
later c rest d below (suc k, within, is) = (k, omega (arith, within), is)

later_same : (x y : ℕ) (xs ys : List ℕ) (c : ℕ) → x ≡ y → IsStrictlyIncreasing (x ∷ xs) → (Contains (x ∷ xs) c → Contains (y ∷ ys) c) → Contains xs c → Contains ys c
later_same x y xs ys c head up to is =
    later y ys c (omega (arith, head, head_below x xs c up is)) (to (suc is.0, omega (arith, is.1), is.2))

-- ascending lists of the same numbers
pub same_ascending : (xs ys : List ℕ) → IsStrictlyIncreasing xs → IsStrictlyIncreasing ys → ((c : ℕ) → Contains xs c ↔ Contains ys c) → xs ≡ ys
same_ascending [] [] up also same = refl
same_ascending [] (y ∷ ys) up also same = let is = (same y).1 (0, omega arith, refl) in absurd (omega (arith, is.1))
same_ascending (x ∷ xs) [] up also same = let is = (same x).0 (0, omega arith, refl) in absurd (omega (arith, is.1))
same_ascending (x ∷ xs) (y ∷ ys) up also same =
    let head : x ≡ y = omega (arith, head_least x xs y up ((same y).1 (0, omega arith, refl)), head_least y ys x also ((same x).0 (0, omega arith, refl))) in
    cons_same x y xs ys head
    (same_ascending xs ys (rest_ascends x xs up) (rest_ascends y ys also)
    (λ c. (later_same x y xs ys c head up (same c).0, later_same y x ys xs c (sym head) also (same c).1)))
