-- Rows and names, one after another.
use Rattle.std.proofs.Common.{◌≡◌, ◌≢◌, ℕ, ◌<◌, ◌≤◌, Bool, true, false, cond, eqb, List, [], ◌∷◌, ◌++◌, length, get_or, take, drop, map, ap, sym, ◌∙◌, refl, arith}
use Rattle.std.specs.Prelude.{filter}
use Rattle.std.specs.List.{AllZip, list_all}
use Rattle.std.proofs.lemmas.Bool.{and_parts, eqb-true}
use Rattle.std.proofs.lemmas.List.{length_push, map-append, take-append-drop}
use Rattle.std.proofs.lemmas.List.Elements.{filter-append}
use Rattle.std.proofs.lemmas.List.Sums.{AllPass-from_list_all}
use Rattle.std.proofs.lemmas.Bool.Decides.{nat_tests}
use Rattle.cubes.specs.declared.cube.CubeFail.{CubeFail}
use Rattle.cubes.specs.declared.cube.CubeFail.TheVariants.{BadChar, BadWidth}
use Rattle.cubes.specs.Cube.{IsFirstBad}
use Rattle.cubes.specs.Field.{IsCharacter}
use Rattle.hs_io.specs.declared.lines.Line.{Line}
use Rattle.kiss2.specs.Inner.ReaderState.{names_in_columns, once_after}
use Rattle.kiss2.specs.Standing.{each_once, names_in_column, row_lines, state_names}
use Rattle.kiss2.specs.Words.{field_at, is_character, is_character_field, is_name}
use Rattle.kiss2.specs.Laws.Once.{among, each_once-append}

-- the fields of characters
pub field_length : (count : ℕ) (field : List ℕ) → is_character_field count field ≡ true → length field ≡ count
field_length count field good = eqb-true (length field) count (and_parts (eqb (length field) count) (list_all is_character field) good).0

pub character_at : (count : ℕ) (field : List ℕ) (place : ℕ) → is_character_field count field ≡ true → place < length field → IsCharacter (get_or field place 0)
character_at count field place good inside =
    let test : is_character (get_or field place 0) ≡ true = AllPass-from_list_all is_character field (and_parts (eqb (length field) count) (list_all is_character field) good).1 place 0 inside in
    grind (arith, nat_tests)

-- a field of characters is parsed
pub parsed : (inputs : ℕ) (field : List ℕ) (fail : CubeFail) → is_character_field inputs field ≡ true
    → ((found : ℕ) → fail ≡ BadWidth found → length field ≢ inputs) → ((place : ℕ) → fail ≡ BadChar place → IsFirstBad field place) → ⊥
parsed inputs field (BadWidth found) good width character = width found refl (field_length inputs field good)
parsed inputs field (BadChar place) good width character =
    let bad = character place refl in bad.bad (character_at inputs field place good bad.inside)

-- names that are put grow
pub once_after-append : (names first second : List (List ℕ)) → once_after names (first ++ second) ≡ once_after (once_after names first) second
once_after-append names [] second = refl
once_after-append names (x ∷ first) second = once_after-append (cond (among x names) names (names ++ x ∷ [])) first second

pub once_after-longer : (names more : List (List ℕ)) → length names ≤ length (once_after names more)
once_after-longer names [] = omega arith
once_after-longer names (x ∷ more) =
    let rest = once_after-longer (cond (among x names) names (names ++ x ∷ [])) more in
    let one : length names ≤ length (cond (among x names) names (names ++ x ∷ [])) = put (among x names) in
    omega arith where
      put : (there : Bool) → length names ≤ length (cond there names (names ++ x ∷ []))
      put true = omega arith
      put false = omega (arith, length_push names x)

pub names_in_column-append : (place : ℕ) (first second : List Line) → names_in_column place (first ++ second) ≡ names_in_column place first ++ names_in_column place second
names_in_column-append place first second = ap (filter is_name) (map-append (field_at place) first second) ∙ filter-append is_name (map (field_at place) first) (map (field_at place) second)

-- names to which a row's field was added are those of a column with a row more
pub row_added : (place : ℕ) (names before after : List (List ℕ)) (rows : List Line) (row : Line) (field : List ℕ)
    → before ≡ once_after names (names_in_column place rows) → field ≡ field_at place row → after ≡ once_after before (filter is_name (field ∷ []))
    → after ≡ once_after names (names_in_column place (rows ++ row ∷ []))
row_added place names before after rows row field begun is added =
    added
    ∙ (ap (λ f. once_after before (filter is_name (f ∷ []))) is
    ∙ (ap (λ front. once_after front (filter is_name (field_at place row ∷ []))) begun
    ∙ (sym (once_after-append names (names_in_column place rows) (filter is_name (field_at place row ∷ [])))
    ∙ ap (once_after names) (sym (names_in_column-append place rows (row ∷ []))))))

-- the first names are no more than all
pub column_few : (place : ℕ) (names : List (List ℕ)) (rows : List Line) (i : ℕ)
    → length (once_after names (names_in_column place (take i rows))) ≤ length (once_after names (names_in_column place rows))
column_few place names rows i =
    let whole : once_after names (names_in_column place rows) ≡ once_after (once_after names (names_in_column place (take i rows))) (names_in_column place (drop i rows)) =
    ap (λ ls. once_after names (names_in_column place ls)) (sym (take-append-drop i rows))
    ∙ (ap (once_after names) (names_in_column-append place (take i rows) (drop i rows))
    ∙ once_after-append names (names_in_column place (take i rows)) (names_in_column place (drop i rows))) in
    rw whole (once_after-longer (once_after names (names_in_column place (take i rows))) (names_in_column place (drop i rows)))

-- one pair more
pub zip_push : {A B : Type 0} (R : A → B → Type 0) (xs : List A) (ys : List B) (x : A) (y : B) → AllZip R xs ys → R x y → AllZip R (xs ++ x ∷ []) (ys ++ y ∷ [])
zip_push R [] [] x y all here = (here, tt)
zip_push R [] (b ∷ ys) x y all here = absurd all
zip_push R (a ∷ xs) [] x y all here = absurd all
zip_push R (a ∷ xs) (b ∷ ys) x y all here = (all.0, zip_push R xs ys x y all.1 here)

no_names : each_once [] ≡ []
unfolding each_once
no_names = refl

-- the names of the one column, and then of the other
pub columns : (rows : List Line) → once_after (once_after [] (names_in_column 1 rows)) (names_in_column 2 rows) ≡ names_in_columns rows
unfolding names_in_columns
columns rows =
    let first : each_once (names_in_column 1 rows) ≡ once_after (each_once []) (names_in_column 1 rows) = each_once-append [] (names_in_column 1 rows) in
    sym (each_once-append (names_in_column 1 rows) (names_in_column 2 rows) ∙ ap (λ front. once_after front (names_in_column 2 rows)) (first ∙ ap (λ front. once_after front (names_in_column 1 rows)) no_names))

-- these are the names of the states of a text with these rows
pub columns_named : (rows lines : List Line) → rows ≡ row_lines lines → names_in_columns rows ≡ state_names lines
unfolding names_in_columns state_names
columns_named rows lines is = ap (λ rs. each_once (names_in_column 1 rs ++ names_in_column 2 rs)) is
