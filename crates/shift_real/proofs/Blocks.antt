-- Lists that are joined of blocks of one length, and the items of a map over a range.
use Rattle.std.proofs.Common.{◌≡◌, ℕ, zero, suc, ◌+◌, ◌*◌, ◌<◌, inl, inr, Some, List, [], ◌∷◌, ◌++◌, length, map, slice_get, refl, ap, sym, ◌∙◌, subst, arith}
use Rattle.std.specs.List.{flat_map, range_with_len}
use Rattle.std.proofs.Math.Nat.{suc-mul, zero-mul}
use Rattle.std.proofs.lemmas.List.FromFn.{get_or-map-range_with_len, length-map-range_with_len}
use Rattle.std.proofs.lemmas.Option.{get_or_from_slice_get, slice_get-get_or, slice_get_within}
use Rattle.list_facts.specs.Laws.Places.{get_behind, get_cases, get_first}

-- the item of a map over a range
pub image_at : {X : Type 0} (f : ℕ → X) (n k : ℕ) → k < n → slice_get (map f (range_with_len 0 n)) k ≡ Some (f k)
image_at {X} f n k lt =
    slice_get-get_or (map f (range_with_len 0 n)) k (f k) (omega (arith, lt, length-map-range_with_len f 0 n))
    ∙ ap (λ (x : X). Some x) (get_or-map-range_with_len f 0 n k k (f k) lt (omega arith))

pub image_from : {X : Type 0} (f : ℕ → X) (n k : ℕ) (x : X) → slice_get (map f (range_with_len 0 n)) k ≡ Some x → (k < n) × (f k ≡ x)
image_from f n k x is =
    let lt : k < n = omega (arith, slice_get_within (map f (range_with_len 0 n)) k x is, length-map-range_with_len f 0 n) in
    (lt, sym (get_or-map-range_with_len f 0 n k k x lt (omega arith)) ∙ get_or_from_slice_get (map f (range_with_len 0 n)) k x x is)

module _ {X Y : Type 0} (f : X → List Y) (n : ℕ) (size : (x : X) → length (f x) ≡ n) where
  -- item j of block i
  pub in_block : (xs : List X) (i j : ℕ) (x : X) (y : Y) → slice_get xs i ≡ Some x → slice_get (f x) j ≡ Some y → slice_get (flat_map f xs) (i * n + j) ≡ Some y
  in_block [] i j x y at there = absurd (cc)
  in_block (z ∷ xs) zero j x y at there =
      let same : z ≡ x = cc in
      let e : j ≡ 0 * n + j = omega (arith, zero-mul n) in
      subst (λ (p : ℕ). slice_get (f z ++ flat_map f xs) p ≡ Some y) e
      (get_first (f z) (flat_map f xs) j y (subst (λ (w : X). slice_get (f w) j ≡ Some y) (sym same) there))
  in_block (z ∷ xs) (suc i) j x y at there =
      let e : length (f z) + (i * n + j) ≡ suc i * n + j = omega (arith, size z, suc-mul i n) in
      subst (λ (p : ℕ). slice_get (f z ++ flat_map f xs) p ≡ Some y) e
      (get_behind (f z) (flat_map f xs) (i * n + j) ∙ in_block xs i j x y at there)

  -- and each item is one of a block
  pub record IsInBlock (xs : List X) (p : ℕ) (y : Y) : Type 0 where
    pub i : ℕ
    pub j : ℕ
    pub x : X
    pub place : p ≡ i * n + j
    pub block : slice_get xs i ≡ Some x
    pub item : slice_get (f x) j ≡ Some y

  pub from_block : (xs : List X) (p : ℕ) (y : Y) → slice_get (flat_map f xs) p ≡ Some y → IsInBlock xs p y
  from_block [] p y at = absurd (cc)
  from_block (z ∷ xs) p y at =
      elim (get_cases (f z) (flat_map f xs) p y at) [
        | inl first ↦ record { i = 0; j = p; x = z; place = omega (arith, zero-mul n); block = refl; item = first }
        | inr behind ↦
            let rest = from_block xs behind.0 y behind.2 in
            record {
              i = suc rest.i;
              j = rest.j;
              x = rest.x;
              place = (let e = behind.1 in omega (arith, e, rest.place, size z, suc-mul rest.i n));
              block = rest.block;
              item = rest.item;
            }
      ]
