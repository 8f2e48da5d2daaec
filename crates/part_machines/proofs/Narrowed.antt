-- Fields that are narrowed to some places: values that they hold are those of a symbol that the whole field holds.
use Rattle.std.proofs.Common.{◌≡◌, ℕ, zero, suc, ◌+◌, ◌<◌, Bool, false, All, Contains, List, [], ◌∷◌, ◌++◌, None, Option, Some, get_or, length, map, set, refl, sym, ◌∙◌, ap, ap₂, subst, arith}
use Rattle.std.proofs.lemmas.List.{get_or_default, get_or-set_other, get_or-set_same, length-set}
use Rattle.std.proofs.lemmas.List.Elements.{All-head, All-tail, Contains-get_or}
use Rattle.std.specs.Bool.{⊤}
use Rattle.std.specs.List.{AllZip}
use Rattle.std.specs.List.Sorted.{IsStrictlyIncreasing}
use Rattle.cubes.specs.Field.{Allows}
use Rattle.gate_rows.specs.Columns.{input_of}
use Rattle.list_facts.specs.Laws.Everywhere.{map_same}
use Rattle.part_machines.specs.PartRows.{characters_at}

-- ---- fields side by side
pub split_held : (first second : List (Option Bool)) (values : List Bool) → AllZip Allows (first ++ second) values
    → (u v : List Bool) × (values ≡ u ++ v) × AllZip Allows first u × AllZip Allows second v
split_held [] second values held = ([], values, refl, tt, held)
split_held (c ∷ first) second [] held = absurd held
split_held (c ∷ first) second (b ∷ values) held =
    let rest = split_held first second values held.1 in
    (b ∷ rest.0, rest.1, ap (λ (list : List Bool). b ∷ list) rest.2, (held.0, rest.3), rest.4)

pub join_held : (first second : List (Option Bool)) (u v : List Bool) → AllZip Allows first u → AllZip Allows second v → AllZip Allows (first ++ second) (u ++ v)
join_held [] second [] v held also = also
join_held [] second (b ∷ u) v held also = absurd held
join_held (c ∷ first) second [] v held also = absurd held
join_held (c ∷ first) second (b ∷ u) v held also = (held.0, join_held first second u v held.1 also)

-- ---- a symbol that has given values at some places
-- the first of the numbers is not among the others, and so on
abbrev Fresh : List ℕ → Type 0
Fresh [] = ⊤
Fresh (a ∷ places) = (Contains places a → ⊥) × Fresh places

pub ascending_tail : (a : ℕ) (places : List ℕ) → IsStrictlyIncreasing (a ∷ places) → IsStrictlyIncreasing places
ascending_tail a places ascend k within =
    let next : suc k + 1 ≡ suc (k + 1) = omega arith in
    subst (λ (n : ℕ). get_or places k 0 < get_or (a ∷ places) n 0) next (ascend (suc k) (omega (arith, within)))

pub above_first : (a : ℕ) (places : List ℕ) → IsStrictlyIncreasing (a ∷ places) → (k : ℕ) → k < length places → a < get_or places k 0
above_first a places ascend zero within = ascend zero (omega (arith, within))
above_first a places ascend (suc k) within =
    let before : a < get_or places k 0 = above_first a places ascend k (omega (arith, within)) in
    let next : suc k + 1 ≡ suc (suc k) = omega arith in
    let step : get_or places k 0 < get_or places (suc k) 0 = subst (λ (n : ℕ). get_or places k 0 < get_or (a ∷ places) n 0) next (ascend (suc k) (omega (arith, within))) in
    omega (arith, before, step)

fresh : (places : List ℕ) → IsStrictlyIncreasing places → Fresh places
fresh [] ascend = tt
fresh (a ∷ places) ascend = (
  (λ among.
      let at : get_or places among.0 0 ≡ a = sym (get_or_default places among.0 a 0 among.1) ∙ among.2 in
      omega (arith, at, above_first a places ascend among.0 among.1)),
  fresh places (ascending_tail a places ascend),
)

-- a symbol that a field holds
some_symbol : (field : List (Option Bool)) → (x : List Bool) × (length x ≡ length field) × AllZip Allows field x
some_symbol [] = ([], refl, tt)
some_symbol (None ∷ field) = let rest = some_symbol field in (false ∷ rest.0, omega (arith, rest.1), (tt, rest.2))
some_symbol (Some b ∷ field) = let rest = some_symbol field in (b ∷ rest.0, omega (arith, rest.1), (refl, rest.2))

-- with another bit at one place
set_held : (field : List (Option Bool)) (x : List Bool) (a : ℕ) (b : Bool) → AllZip Allows field x → Allows (get_or field a None) b → AllZip Allows field (set x a b)
set_held [] [] a b held allowed = tt
set_held [] (d ∷ x) a b held allowed = absurd held
set_held (c ∷ field) [] a b held allowed = absurd held
set_held (c ∷ field) (d ∷ x) zero b held allowed = (allowed, held.1)
set_held (c ∷ field) (d ∷ x) (suc a) b held allowed = (held.0, set_held field x a b held.1 allowed)

symbol_by : (field : List (Option Bool)) (places : List ℕ) (u : List Bool) → All (λ a. a < length field) places → Fresh places → AllZip Allows (characters_at field places) u
    → (x : List Bool) × (length x ≡ length field) × AllZip Allows field x × (map (input_of x) places ≡ u)
symbol_by field [] [] within once held = let some = some_symbol field in (some.0, some.1, some.2, refl)
symbol_by field [] (b ∷ u) within once held = absurd held
symbol_by field (a ∷ places) [] within once held = absurd held
symbol_by field (a ∷ places) (b ∷ u) within once held =
    let rest = symbol_by field places u (All-tail (λ c. c < length field) a places within) once.1 held.1 in
    let x : List Bool = rest.0 in
    let low : a < length x = omega (arith, rest.1, All-head (λ c. c < length field) a places within) in
    let others : All (λ d. input_of (set x a b) d ≡ input_of x d) places =
    λ k d below. get_or-set_other x a (get_or places k d) b false (λ same. once.0 (subst (Contains places) same (Contains-get_or places k d below))) in (
      set x a b,
      length-set x a b ∙ rest.1,
      set_held field x a b rest.2 held.0,
      ap₂ ◌∷◌ (get_or-set_same x a b false low) (map_same (input_of (set x a b)) (input_of x) places others ∙ rest.3),
    )

pub symbol_from : (field : List (Option Bool)) (places : List ℕ) (u : List Bool) → All (λ a. a < length field) places → IsStrictlyIncreasing places → AllZip Allows (characters_at field places) u
    → (x : List Bool) × (length x ≡ length field) × AllZip Allows field x × (map (input_of x) places ≡ u)
symbol_from field places u within ascend held = symbol_by field places u within (fresh places ascend) held

-- ---- and back: the narrowed field holds the values of each symbol that the field holds
allowed_at : (field : List (Option Bool)) (x : List Bool) (a : ℕ) → AllZip Allows field x → a < length field → Allows (get_or field a None) (get_or x a false)
allowed_at [] x a held low = absurd (omega (arith, low))
allowed_at (c ∷ field) [] a held low = absurd held
allowed_at (c ∷ field) (b ∷ x) zero held low = held.0
allowed_at (c ∷ field) (b ∷ x) (suc a) held low = allowed_at field x a held.1 (omega (arith, low))

pub narrowed_held : (field : List (Option Bool)) (x : List Bool) (places : List ℕ) → AllZip Allows field x → All (λ a. a < length field) places → AllZip Allows (characters_at field places) (map (input_of x) places)
narrowed_held field x [] held within = tt
narrowed_held field x (a ∷ places) held within = (
  allowed_at field x a held (All-head (λ c. c < length field) a places within),
  narrowed_held field x places held (All-tail (λ c. c < length field) a places within),
)
