-- What is known of items, and what they stand for.
use Rattle.std.proofs.Common.{◌≡◌, ℕ, ◌<◌, List, [], ◌∷◌, length, map, get_or, All, AllPairs, Contains, subst, sym, ◌∙◌, refl, ap, arith}
use Rattle.std.specs.List.{AllByRecursion}
use Rattle.std.proofs.lemmas.List.{get_or_default, get_or-map, length-map}
use Rattle.hs_lattice.specs.Collection.{Knows}

-- what each known value has, each item's value has
pub All-from_known : {X M : Type 0} (meaning : X → M) (P : M → Type 0) (known : List X) → ((z : M) → Knows meaning known z → P z) → All (λ x. P (meaning x)) known
All-from_known meaning P known each k d lt = each (meaning (get_or known k d)) (k, get_or known k d, lt, get_or_default known k (get_or known k d) d lt, refl)

-- and the other way round
pub known_fit : {X M : Type 0} (meaning : X → M) (P : M → Type 0) (items : List X) → All (λ x. P (meaning x)) items → (z : M) → Knows meaning items z → P z
known_fit meaning P items all z (k, x, lt, read, is) = subst P (ap meaning read ∙ is) (all k x lt)

-- what some item stands for stands among the values
pub Contains-map : {X M : Type 0} (meaning : X → M) (items : List X) (z : M) → Knows meaning items z → Contains (map meaning items) z
Contains-map meaning items z (k, x, lt, read, is) =
    (k, subst (λ n. k < n) (sym (length-map items meaning)) lt, get_or-map meaning items k x z lt ∙ (ap meaning read ∙ is))

-- what stands among the values, some item stands for
pub Knows-map : {X M : Type 0} (meaning : X → M) (items : List X) (z : M) → Contains (map meaning items) z → Knows meaning items z
Knows-map {X} meaning [] z (k, lt, read) = absurd (omega arith)
Knows-map {X} meaning (x ∷ items) z (k, lt, read) =
    let inside : k < length (x ∷ items) = subst (λ n. k < n) (length-map (x ∷ items) meaning) lt in
    (k, get_or (x ∷ items) k x, inside, get_or_default (x ∷ items) k (get_or (x ∷ items) k x) x inside, sym (get_or-map meaning (x ∷ items) k x z inside) ∙ read)

-- the values of an ascending list ascend
pub AllPairs-map : {X M : Type 0} (meaning : X → M) (R : M → M → Type 0) (xs : List X) → AllPairs (λ x y. R (meaning x) (meaning y)) xs → AllPairs R (map meaning xs)
AllPairs-map meaning R [] pairs i j d lt inside = absurd (omega arith)
AllPairs-map meaning R (x ∷ xs) pairs i j d lt inside =
    let n : j < length (x ∷ xs) = subst (λ m. j < m) (length-map (x ∷ xs) meaning) inside in
    rw (get_or-map meaning (x ∷ xs) i x d (omega arith), get_or-map meaning (x ∷ xs) j x d n) (pairs i j x lt n)

-- what each of a list of values has
pub each_weaker : {M : Type 0} (P Q : M → Type 0) (chosen : List M) → ((m : M) → P m → Q m) → AllByRecursion P chosen → AllByRecursion Q chosen
each_weaker P Q [] weaker each = tt
each_weaker P Q (m ∷ chosen) weaker (has, each) = (weaker m has, each_weaker P Q chosen weaker each)

-- an item that was read fits
pub read_fits : {X M : Type 0} (meaning : X → M) (fits : M → Type 0) (items : List X) (k : ℕ) (x : X) → All (λ y. fits (meaning y)) items → k < length items → x ≡ get_or items k x → fits (meaning x)
read_fits {X} meaning fits items k x all lt read = subst (λ (y : X). fits (meaning y)) (sym read) (all k x lt)
