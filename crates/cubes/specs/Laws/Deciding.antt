-- What a cube holds, as a yes or no.
use Rattle.std.proofs.Common.{◌≡◌, Bool, true, false, Option, Some, None, List, [], ◌∷◌, sym, refl}
use Rattle.std.specs.List.{AllZip}
use Rattle.std.proofs.lemmas.Bool.{false≢true, and_parts, and_from}
use Rattle.cubes.specs.declared.cube.Cube.{Cube}
use Rattle.cubes.specs.Cube.{field_of, holds, Holds}
use Rattle.cubes.specs.Field.{Allows, allows, characters_hold}

-- a character that passes the test allows the bit
allows_from_test : (c : Option Bool) (b : Bool) → allows c b ≡ true → Allows c b
allows_from_test (Some true) true h = refl
allows_from_test (Some true) false h = absurd (false≢true h)
allows_from_test (Some false) true h = absurd (false≢true h)
allows_from_test (Some false) false h = refl
allows_from_test None b h = tt

-- and one that allows it passes
test_from_allows : (c : Option Bool) (b : Bool) → Allows c b → allows c b ≡ true
test_from_allows (Some true) true h = refl
test_from_allows (Some true) false h = h
test_from_allows (Some false) true h = absurd (false≢true (sym h))
test_from_allows (Some false) false h = refl
test_from_allows None b h = refl

-- characters that pass the test hold the symbol
characters_from_test : (field : List (Option Bool)) (symbol : List Bool) → characters_hold field symbol ≡ true → AllZip Allows field symbol
characters_from_test [] [] h = tt
characters_from_test [] (b ∷ bits) h = absurd (false≢true h)
characters_from_test (c ∷ field) [] h = absurd (false≢true h)
characters_from_test (c ∷ field) (b ∷ bits) h =
    let both = and_parts (allows c b) (characters_hold field bits) h in
    (allows_from_test c b both.0, characters_from_test field bits both.1)

-- and those that hold it pass
test_from_characters : (field : List (Option Bool)) (symbol : List Bool) → AllZip Allows field symbol → characters_hold field symbol ≡ true
test_from_characters [] [] h = refl
test_from_characters [] (b ∷ bits) h = elim h [ ]
test_from_characters (c ∷ field) [] h = elim h [ ]
test_from_characters (c ∷ field) (b ∷ bits) h =
    and_from (allows c b) (characters_hold field bits) (test_from_allows c b h.0) (test_from_characters field bits h.1)

-- a cube that passes the test holds the symbol
pub held_from_test : (cube : Cube) (symbol : List Bool) → holds cube symbol ≡ true → Holds cube symbol
unfolding Holds
held_from_test cube symbol h = characters_from_test (field_of cube) symbol h

-- and one that holds it passes
pub test_from_held : (cube : Cube) (symbol : List Bool) → Holds cube symbol → holds cube symbol ≡ true
unfolding Holds
test_from_held cube symbol h = test_from_characters (field_of cube) symbol h
