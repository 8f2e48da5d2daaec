-- A word that is a number in a range has its value there.
use Rattle.std.proofs.Common.{◌≡◌, ◌≤◌, ℕ, Bool, true, false, ◌&&◌, leb, List, refl}
use Rattle.std.proofs.lemmas.Bool.{leb-true}
use Rattle.job_words.specs.Number.{is_number, is_within, value_of}

pub both : (a b : Bool) → (a && b) ≡ true → (a ≡ true) × (b ≡ true)
both true b e = (refl, e)
both false b e = cc

three : (a b c : Bool) → (a && b && c) ≡ true → (b ≡ true) × (c ≡ true)
three true true true e = (refl, refl)
three true true false e = cc
three true false c e = cc
three false b c e = cc

pub in_range : (low high : ℕ) (word : List ℕ) → is_within low high word ≡ true → (low ≤ value_of word) × (value_of word ≤ high)
in_range low high word within =
    let ends = three (is_number word) (leb low (value_of word)) (leb (value_of word) high) within in
    (leb-true low (value_of word) ends.0, leb-true (value_of word) high ends.1)
