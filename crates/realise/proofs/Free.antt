-- The number of times that the prefix stands keeps own names apart from given ones, and is the least that does.
use Rattle.std.proofs.Common.{◌≡◌, ℕ, zero, suc, ◌+◌, ◌*◌, ◌<◌, ◌≤◌, ◌⊎◌, inl, inr, Bool, eqb, true, false, not, if◌then◌else◌, Option, Some, None, unwrap_or, List, [], ◌∷◌, ◌++◌, length, map, All, Contains, refl, sym, ap, ◌∙◌, subst, arith, length-append, codes}
use Rattle.std.specs.Fmt.{decimal}
use Rattle.std.specs.List.{AllByRecursion, list_any, range_with_len}
use Rattle.std.specs.Str.{bytes_eq}
use Rattle.std.proofs.lemmas.Bool.Decides.{nat_tests}
use Rattle.std.proofs.lemmas.Bool.{cases_Bool, false≢true}
use Rattle.std.proofs.lemmas.List.Elements.{All-append, All-from_recursion}
use Rattle.std.proofs.lemmas.List.Folds.{Any-from_list_any, list_any_at}
use Rattle.kiss_file.specs.declared.file.KissFile.{KissFile}
use Rattle.kiss_file.specs.LawfulFile.{AreGiven, IsGivenName, IsLawful, given_names}
use Rattle.net_core.specs.Laws.Members.{is_same_name, same_name}
use Rattle.realise.specs.Inner.FreeNames.{are_free, first_free, is_given, first_count}
use Rattle.realise.specs.Names.{AreFree, IsPrefixCount, input_letter, next_letter, output_letter, own_name, own_names, prefix, state_letter, unless_given, used_names}

-- ---- the test
-- a name that stands among the given ones is given
given_of : (F : KissFile) (name : List ℕ) → Contains (given_names F) name → is_given F name ≡ true
given_of F name (k, lt, is) = list_any_at (bytes_eq name) (given_names F) k name lt (is_same_name name _ (sym is))

from_given : (F : KissFile) (name : List ℕ) → is_given F name ≡ true → Contains (given_names F) name
from_given F name h =
    let one = Any-from_list_any (bytes_eq name) (given_names F) h in
    let same : name ≡ one.1 = same_name name one.1 one.4 in
    subst (Contains (given_names F)) (sym same) (one.0, one.2, one.3)

-- the test passes where no own name that is used is a given one
free_of_test : (F : KissFile) (latches count : ℕ) → are_free F latches count ≡ true → AreFree F latches count
unfolding are_free
free_of_test F latches count passes name (k, lt, is) given =
    let one : is_given F name ≡ true = given_of F name given in
    let some : list_any (is_given F) (used_names F latches count) ≡ true =
    list_any_at (is_given F) (used_names F latches count) k name lt (subst (λ (n : List ℕ). is_given F n ≡ true) (sym is) one) in
    false≢true (ap not (sym some) ∙ passes)

test_of_free : (F : KissFile) (latches count : ℕ) → AreFree F latches count → are_free F latches count ≡ true
unfolding are_free
test_of_free F latches count free =
    elim (cases_Bool (list_any (is_given F) (used_names F latches count))) [
      | inl some ↦
          let one = Any-from_list_any (is_given F) (used_names F latches count) some in
          absurd (free one.1 (one.0, one.2, one.3) (from_given F one.1 one.4))
      | inr none ↦ ap not none
    ]

-- ---- how long names are
-- the prefix
length_prefix : (count : ℕ) → length (prefix count) ≡ 3 * count
length_prefix zero = refl
length_prefix (suc count) = omega (arith, length_prefix count)

-- an own name is longer than its prefix
own_long : (count letter number : ℕ) → 3 * count < length (own_name count letter number)
own_long count letter number = omega (arith, length_prefix count, length-append (prefix count) (letter ∷ decimal number))

-- bytes past a number
abbrev IsPast : ℕ → List ℕ → Type 0
IsPast few name = few < length name

own_names_long : (count letter first many : ℕ) → AllByRecursion (IsPast (3 * count)) (map (own_name count letter) (range_with_len first many))
own_names_long count letter first zero = tt
own_names_long count letter first (suc many) = (own_long count letter first, own_names_long count letter (first + 1) many)

all_long : (count letter many : ℕ) → All (IsPast (3 * count)) (own_names count letter many)
all_long count letter many = All-from_recursion (IsPast (3 * count)) (own_names count letter many) (own_names_long count letter 0 many)

unless_long : (given : Option (List (List ℕ))) (few : ℕ) (own : List (List ℕ)) → All (IsPast few) own → All (IsPast few) (unless_given given own)
unless_long None few own long = long
unless_long (Some names) few own long = λ k d lt. absurd (omega arith)

used_long : (F : KissFile) (latches count : ℕ) → All (IsPast (3 * count)) (used_names F latches count)
used_long F latches count =
    let P : List ℕ → Type 0 = IsPast (3 * count) in
    let ins : List (List ℕ) = unless_given F.input_names (own_names count input_letter F.inputs) in
    let outs : List (List ℕ) = unless_given F.output_names (own_names count output_letter F.outputs) in
    let nexts : List (List ℕ) = own_names count next_letter latches in
    let states : List (List ℕ) = own_names count state_letter latches in
    All-append P (ins ++ outs ++ nexts) states
    (All-append P (ins ++ outs) nexts
    (All-append P ins outs (unless_long F.input_names (3 * count) _ (all_long count input_letter F.inputs)) (unless_long F.output_names (3 * count) _ (all_long count output_letter F.outputs)))
    (all_long count next_letter latches))
    (all_long count state_letter latches)

-- a given name
given_of_one : (count : ℕ) (names : Option (List (List ℕ))) → AreGiven count names → All IsGivenName (unwrap_or names [])
given_of_one count None are = λ k d lt. absurd (omega arith)
given_of_one count (Some names) are = are.1

pub all_given : (F : KissFile) → IsLawful F → All IsGivenName (given_names F)
all_given F lawful =
    All-append IsGivenName (unwrap_or F.input_names []) (unwrap_or F.output_names [])
    (given_of_one F.inputs F.input_names lawful.input_names) (given_of_one F.outputs F.output_names lawful.output_names)

-- so behind many prefixes own names are free
free_at_last : (F : KissFile) (latches count : ℕ) → IsLawful F → 22 ≤ count → AreFree F latches count
free_at_last F latches count lawful many name (k, lt, is) (j, below, stands) =
    let long : 3 * count < length name = subst (IsPast (3 * count)) is (used_long F latches count k name lt) in
    let given : IsGivenName name = subst IsGivenName stands (all_given F lawful j name below) in
    absurd (omega (arith, long, given.short))

-- ---- the first number
first_is_free : (tries : ℕ) (F : KissFile) (latches count : ℕ) → are_free F latches (count + tries) ≡ true → are_free F latches (first_free tries F latches count) ≡ true
unfolding first_free
first_is_free zero F latches count last = let same : count + 0 ≡ count = omega arith in subst (λ (n : ℕ). are_free F latches n ≡ true) same last
first_is_free (suc tries) F latches count last =
    let same : count + suc tries ≡ count + 1 + tries = omega arith in
    either (are_free F latches count) refl (first_is_free tries F latches (count + 1) (subst (λ (n : ℕ). are_free F latches n ≡ true) same last))
  where
    either : (test : Bool) → are_free F latches count ≡ test → are_free F latches (first_free tries F latches (count + 1)) ≡ true
        → are_free F latches (if test then count else first_free tries F latches (count + 1)) ≡ true
    either true here later = here
    either false other later = later

-- a number that is not above another is it or below it
eq_or_less : (a b : ℕ) → a ≤ b → (a ≡ b) ⊎ (a + 1 ≤ b)
eq_or_less a b le =
    elim (cases_Bool (eqb a b)) [
      | inl same ↦ inl (grind (arith, nat_tests))
      | inr other ↦ inr (grind (arith, nat_tests))
    ]

first_is_least : (tries : ℕ) (F : KissFile) (latches count fewer : ℕ) → count ≤ fewer → are_free F latches fewer ≡ true → first_free tries F latches count ≤ fewer
unfolding first_free
first_is_least zero F latches count fewer from free = from
first_is_least (suc tries) F latches count fewer from free =
    either (are_free F latches count) refl (λ less. first_is_least tries F latches (count + 1) fewer less free)
  where
    either : (test : Bool) → are_free F latches count ≡ test → (count + 1 ≤ fewer → first_free tries F latches (count + 1) ≤ fewer)
        → (if test then count else first_free tries F latches (count + 1)) ≤ fewer
    either true here later = from
    either false other later =
        elim (eq_or_less count fewer from) [
          | inl same ↦ absurd (false≢true (sym other ∙ (ap (are_free F latches) same ∙ free)))
          | inr less ↦ later less
        ]

-- one try
pub first_here : (tries : ℕ) (F : KissFile) (latches count : ℕ) → are_free F latches count ≡ true → first_free tries F latches count ≡ count
unfolding first_free
first_here zero F latches count here = refl
first_here (suc tries) F latches count here = rw here refl

pub first_later : (tries fewer : ℕ) (F : KissFile) (latches count : ℕ) → tries ≡ suc fewer → are_free F latches count ≡ false → first_free tries F latches count ≡ first_free fewer F latches (count + 1)
unfolding first_free
first_later tries fewer F latches count same other = ap (λ (n : ℕ). first_free n F latches count) same ∙ rw other refl

pub first_last : (tries : ℕ) (F : KissFile) (latches count : ℕ) → tries ≡ 0 → first_free tries F latches count ≡ count
unfolding first_free
first_last tries F latches count none = ap (λ (n : ℕ). first_free n F latches count) none

pub first_of_all : (F : KissFile) (latches : ℕ) → first_free 22 F latches 0 ≡ first_count F latches
unfolding first_count
first_of_all F latches = refl

-- what the test says
pub test_is : (F : KissFile) (latches count : ℕ) (used : List (List ℕ)) → used ≡ used_names F latches count → not (list_any (is_given F) used) ≡ are_free F latches count
unfolding are_free
test_is F latches count used is = ap (λ (names : List (List ℕ)). not (list_any (is_given F) names)) is

-- one prefix more
pub prefix_more : (count : ℕ) → prefix (count + 1) ≡ prefix count ++ codes "hs_"
prefix_more zero = refl
prefix_more (suc count) = let one : suc count + 1 ≡ suc (count + 1) = omega arith in ap prefix one ∙ ap (λ (rest : List ℕ). codes "hs_" ++ rest) (prefix_more count)

-- so the number is right
pub prefix_counted : (F : KissFile) (latches : ℕ) → IsLawful F → IsPrefixCount F latches (first_count F latches)
unfolding first_count
prefix_counted F latches lawful = record {
  free = free_of_test F latches (first_free 22 F latches 0) (first_is_free 22 F latches 0 (test_of_free F latches 22 (free_at_last F latches 22 lawful (omega arith))));
  least = λ fewer free. first_is_least 22 F latches 0 fewer (omega arith) (test_of_free F latches fewer free);
}
