-- Names made of a letter and a number are plain, and no two are equal.
use Rattle.std.proofs.Common.{◌≡◌, ℕ, ◌+◌, ◌%◌, ◌^◌, ◌<◌, ◌≤◌, List, [], ◌∷◌, ◌++◌, All, Contains, length, get_or, sym, ap, ◌∙◌, subst, arith}
use Rattle.std.specs.Fmt.{decimal}
use Rattle.std.proofs.lemmas.Fmt.{decimal_by_steps, decimal_injective, length-decimal-le}
use Rattle.std.proofs.lemmas.List.FromFn.{get_or-map-range_with_len, length-map-range_with_len, map-range_with_len_more}
use Rattle.std.proofs.lemmas.List.Elements.{All-cons, All-from_get_or, All-nil, All-push}
use Rattle.hs_io.specs.Spelling.{IsFieldByte}
use Rattle.kiss_file.specs.Names.{AreDistinct, IsPlainName}
use Rattle.kiss_file.specs.NumberedNames.{numbered_name, numbered_names}

tail : List ℕ → List ℕ
tail [] = []
tail (x ∷ xs) = xs

-- two numbers with one name are one
same_number : (s t : ℕ) → s < 2 ^ 64 → t < 2 ^ 64 → numbered_name s ≡ numbered_name t → s ≡ t
unfolding tail
same_number s t small also same = decimal_injective s t small also (ap tail same)

pub length-numbered_names : (count : ℕ) → length (numbered_names count) ≡ count
length-numbered_names count = length-map-range_with_len numbered_name 0 count

name_at : (count i : ℕ) (d : List ℕ) → i < count → get_or (numbered_names count) i d ≡ numbered_name i
name_at count i d below = get_or-map-range_with_len numbered_name 0 count i i d below (omega arith)

-- a name is none of those before it
name_is_new : (s : ℕ) → s < 2 ^ 64 → Contains (numbered_names s) (numbered_name s) → ⊥
name_is_new s small (place, within, is) =
    let below : place < s = omega (arith, within, length-numbered_names s) in
    let same : place ≡ s = same_number place s (omega arith) small (sym (name_at s place (numbered_name s) below) ∙ is) in
    omega arith

-- so it goes after them
pub name_added : (s : ℕ) (old new : List (List ℕ)) (name : List ℕ) → s < 2 ^ 64 → old ≡ numbered_names s → name ≡ numbered_name s
    → ((Contains old name → ⊥) → new ≡ old ++ name ∷ []) → new ≡ numbered_names (s + 1)
name_added s old new name small front is last =
    let absent : Contains old name → ⊥ = λ there. name_is_new s small (subst (λ (list : List (List ℕ)). Contains list (numbered_name s)) front (subst (Contains old) is there)) in
    last absent ∙ ap (λ (list : List (List ℕ)). list ++ name ∷ []) front ∙ ap (λ (n : List ℕ). numbered_names s ++ n ∷ []) is
    ∙ sym (map-range_with_len_more numbered_name 0 s s (omega arith))

-- no two are equal
pub numbered_names-distinct : (count : ℕ) → count < 65536 → AreDistinct (numbered_names count)
numbered_names-distinct count few i j d before within same =
    let below : j < count = omega (arith, within, length-numbered_names count) in
    let equal : i ≡ j = same_number i j (omega arith) (omega arith) (sym (name_at count i d (omega arith)) ∙ same ∙ name_at count j d below) in
    omega arith

-- ---- each is plain
digit_byte : (digit : ℕ) → digit < 10 → IsFieldByte (48 + digit)
digit_byte digit low = record { low = omega arith; high = omega arith; no_comment = λ is. omega arith }

decimal_bytes : (n : ℕ) → n < 2 ^ 64 → All IsFieldByte (decimal n)
decimal_bytes n small =
    decimal_by_steps (λ m digits. All IsFieldByte digits)
    (λ m low. All-cons IsFieldByte (48 + m) [] (digit_byte m low) (All-nil IsFieldByte))
    (λ m digits high so_far. All-push IsFieldByte digits (48 + m % 10) so_far (digit_byte (m % 10) (omega arith)))
    n small

name_plain : (s : ℕ) → s < 65536 → IsPlainName (numbered_name s)
name_plain s few =
    let short : length (decimal s) ≤ 5 = length-decimal-le 5 s (omega arith) (omega arith) (omega arith) in
    let letter : IsFieldByte 115 = record { low = omega arith; high = omega arith; no_comment = λ is. omega arith } in
    record {
      some = omega arith;
      short = omega arith;
      visible = All-cons IsFieldByte 115 (decimal s) letter (decimal_bytes s (omega arith));
      no_star = λ same. let first : 115 ≡ 42 = ap (λ (xs : List ℕ). get_or xs 0 0) same in omega arith;
      no_dash = λ same. let first : 115 ≡ 45 = ap (λ (xs : List ℕ). get_or xs 0 0) same in omega arith;
    }

pub numbered_names-plain : (count : ℕ) → count < 65536 → All IsPlainName (numbered_names count)
numbered_names-plain count few =
    All-from_get_or IsPlainName (numbered_names count) []
    (λ i within.
    let below : i < count = omega (arith, within, length-numbered_names count) in
    subst IsPlainName (sym (name_at count i [] below)) (name_plain i (omega arith)))
