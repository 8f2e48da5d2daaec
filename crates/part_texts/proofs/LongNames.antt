-- The first name that is too long, and how many bytes it has.
use Rattle.std.proofs.Common.{◌≡◌, ◌<◌, ℕ, true, false, inr, List, [], ◌++◌, None, Option, Some, length, get_or, refl, sym, ap, ◌∙◌, arith}
use Rattle.std.specs.Prelude.{find, option_map}
use Rattle.std.specs.Option.{option_or}
use Rattle.std.proofs.lemmas.Bool.Decides.{nat_tests}
use Rattle.std.proofs.lemmas.List.Folds.{find-append}
use Rattle.std.proofs.lemmas.Option.{none-some, same_Some}
use Rattle.answers.specs.declared.refusals.PartFlaw.TheVariants.{LongName}
use Rattle.answers.specs.declared.refusals.Refusal.TheVariants.{NoPart}
use Rattle.answers.specs.Cause.{CallsForNone}
use Rattle.answers.specs.Outcome.{IsStop}
use Rattle.kiss2.specs.Laws.Finding.{find_first, find_none}
use Rattle.state_codes.specs.declared.which.Which.{Which}
use Rattle.part_texts.specs.PartCauses.{IsFirstLong, is_long}

-- the number of bytes of the first long one of names
abbrev pub long_bytes : List (List ℕ) → Option ℕ
long_bytes names = option_map length (find is_long names)

-- ---- among names in order
pub is_long_name : (name : List ℕ) → 64 < length name → is_long name ≡ true
is_long_name name long = grind (arith, nat_tests, long)

pub is_short_name : (name : List ℕ) → (64 < length name → ⊥) → is_long name ≡ false
is_short_name name short = grind (arith, nat_tests, short)

pub first_among : (names : List (List ℕ)) (i : ℕ) → i < length names → ((k : ℕ) → k < i → is_long (get_or names k []) ≡ false) → 64 < length (get_or names i []) → Some (length (get_or names i [])) ≡ long_bytes names
first_among names i within before long = sym (ap (option_map length) (find_first is_long names [] i within before (is_long_name (get_or names i []) long)))

pub none_among : (names : List (List ℕ)) → ((k : ℕ) → k < length names → is_long (get_or names k []) ≡ false) → None ≡ long_bytes names
none_among names before = sym (ap (option_map length) (find_none is_long names [] before))

-- ---- among names and further ones
module _ (names others : List (List ℕ)) where
  together : long_bytes (names ++ others) ≡ option_map length (option_or (find is_long names) (find is_long others))
  together = ap (option_map length) (find-append is_long names others)

  first_of : (found : Option (List ℕ)) (bytes : ℕ) → option_map length found ≡ Some bytes → option_map length (option_or found (find is_long others)) ≡ Some bytes
  first_of None bytes is = absurd (none-some bytes is)
  first_of (Some name) bytes is = is

  pub found_first : (bytes : ℕ) → Some bytes ≡ long_bytes names → Some bytes ≡ long_bytes (names ++ others)
  found_first bytes is = sym (together ∙ first_of (find is_long names) bytes (sym is))

  later_of : (found : Option (List ℕ)) → option_map length found ≡ None → option_map length (option_or found (find is_long others)) ≡ long_bytes others
  later_of None is = refl
  later_of (Some name) is = absurd (none-some (length name) (sym is))

  pub found_later : None ≡ long_bytes names → long_bytes others ≡ long_bytes (names ++ others)
  found_later is = sym (together ∙ later_of (find is_long names) (sym is))

-- ---- what is called for
module _ (which : Which) (names : List (List ℕ)) where
  pub stop_long : (bytes : ℕ) → long_bytes names ≡ Some bytes → IsStop (IsFirstLong which names) (NoPart (LongName which bytes))
  stop_long bytes is = by (find is_long names) refl
    where
      by : (found : Option (List ℕ)) → find is_long names ≡ found → IsStop (IsFirstLong which names) (NoPart (LongName which bytes))
      by None nothing = absurd (none-some bytes (ap (option_map length) (sym nothing) ∙ is))
      by (Some name) found =
          let size : length name ≡ bytes = same_Some (length name) bytes (ap (option_map length) (sym found) ∙ is) in
          inr (name, ap (λ (n : ℕ). NoPart (LongName which n)) (sym size), found)

  pub none_long : long_bytes names ≡ None → CallsForNone (IsFirstLong which names)
  none_long is refusal (name, equal, found) = none-some (length name) (sym is ∙ ap (option_map length) found)
