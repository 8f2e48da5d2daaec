-- One more character at the end of a field.
use Rattle.std.proofs.Common.{Some, None, ◌≡◌, ℕ, zero, suc, ◌+◌, ◌*◌, ◌/◌, ◌%◌, ◌^◌, ◌<◌, min, cond, List, [], ◌∷◌, ◌++◌, map, take, length, get_or, ap, sym, ◌∙◌, refl, arith, bit_and, eqb}
use Rattle.std.proofs.lemmas.List.{take_more, map-append}
use Rattle.std.proofs.lemmas.Nat.Bits.{bit_at_lowest, bit_at-suc, bit_at_and, same_from_bits}
use Rattle.std.specs.Int.{bit_at}
use Rattle.cubes.specs.declared.cube.Character.{Character}
use Rattle.cubes.specs.declared.cube.Character.TheVariants.{Zero, One, Dash}
use Rattle.cubes.specs.Symbol.{bit}
use Rattle.cubes.specs.Inner.Character.{bit_of, care_of, value_of}
use Rattle.cubes.specs.Field.{IsCharacter, byte_of, character, characters}

-- a number with one more bit at its end
half-twice : (n b : ℕ) → b < 2 → (2 * n + b) / 2 ≡ n
half-twice n b lt = omega arith

odd-twice : (n b : ℕ) → b < 2 → (2 * n + b) % 2 ≡ b
odd-twice n b lt = omega arith

bit_at-last : (n b : ℕ) → b < 2 → bit_at (2 * n + b) 0 ≡ b
bit_at-last n b lt = bit_at_lowest (2 * n + b) ∙ odd-twice n b lt

bit_at-before : (n b k : ℕ) → b < 2 → bit_at (2 * n + b) (suc k) ≡ bit_at n k
bit_at-before n b k lt = bit_at-suc (2 * n + b) k ∙ ap (λ m. bit_at m k) (half-twice n b lt)

pub care_below : (c : Character) → care_of c < 2
care_below Zero = omega arith
care_below One = omega arith
care_below Dash = omega arith

pub value_below : (c : Character) → value_of c < 2
value_below Zero = omega arith
value_below One = omega arith
value_below Dash = omega arith

-- a value with one more bit lies inside its care
value_in : (c : Character) → value_of c ≡ min (care_of c) (value_of c)
value_in Zero = refl
value_in One = refl
value_in Dash = refl

pub value_kept : (care value : ℕ) (c : Character) → bit_and care value ≡ value → bit_and (2 * care + care_of c) (2 * value + value_of c) ≡ 2 * value + value_of c
value_kept care value c inside = same_from_bits (bit_and (2 * care + care_of c) (2 * value + value_of c)) (2 * value + value_of c) each where
  each : (k : ℕ) → bit_at (bit_and (2 * care + care_of c) (2 * value + value_of c)) k ≡ bit_at (2 * value + value_of c) k
  each zero =
      bit_at_and (2 * care + care_of c) (2 * value + value_of c) 0
      ∙ rw (bit_at-last care (care_of c) (care_below c), bit_at-last value (value_of c) (value_below c)) (sym (value_in c))
  each (suc k) =
      bit_at_and (2 * care + care_of c) (2 * value + value_of c) (suc k)
      ∙ rw (bit_at-before care (care_of c) k (care_below c), bit_at-before value (value_of c) k (value_below c))
      (sym (bit_at_and care value k) ∙ ap (λ n. bit_at n k) inside)

last_of : (c : Character) → cond (eqb (care_of c) 1) (Some (eqb (value_of c) 1)) None ≡ bit_of c
last_of Zero = refl
last_of One = refl
last_of Dash = refl

pub character-last : (care value : ℕ) (c : Character) → character (2 * care + care_of c) (2 * value + value_of c) 0 ≡ bit_of c
character-last care value c =
    let cares : bit_at (2 * care + care_of c) 0 ≡ care_of c = bit_at-last care (care_of c) (care_below c) in
    let ones : bit_at (2 * value + value_of c) 0 ≡ value_of c = bit_at-last value (value_of c) (value_below c) in
    ap (λ d. cond (eqb d 1) (Some (bit (2 * value + value_of c) 0)) None) cares
    ∙ ap (λ d. cond (eqb (care_of c) 1) (Some (eqb d 1)) None) ones
    ∙ last_of c

pub character-before : (care value : ℕ) (c : Character) (k : ℕ) → character (2 * care + care_of c) (2 * value + value_of c) (suc k) ≡ character care value k
character-before care value c k =
    ap (λ d. cond (eqb d 1) (Some (bit (2 * value + value_of c) (suc k))) None) (bit_at-before care (care_of c) k (care_below c))
    ∙ ap (λ d. cond (bit care k) (Some (eqb d 1)) None) (bit_at-before value (value_of c) k (value_below c))

pub characters-push : (places care value : ℕ) (c : Character) → characters (suc places) (2 * care + care_of c) (2 * value + value_of c) ≡ characters places care value ++ bit_of c ∷ []
unfolding characters
characters-push zero care value c = ap (λ d. d ∷ []) (character-last care value c)
characters-push (suc p) care value c =
    ap (λ d. d ∷ characters (suc p) (2 * care + care_of c) (2 * value + value_of c)) (character-before care value c p)
    ∙ ap (λ rest. character care value p ∷ rest) (characters-push p care value c)

-- the text so far spells the characters so far
pub spelled-push : (text : List ℕ) (place care value : ℕ) (c : Character) → place < length text
    → take place text ≡ map byte_of (characters place care value) → byte_of (bit_of c) ≡ get_or text place 0
    → take (place + 1) text ≡ map byte_of (characters (place + 1) (2 * care + care_of c) (2 * value + value_of c))
spelled-push text place care value c lt spelled here =
    let one_more : place + 1 ≡ suc place = omega arith in
    take_more text place 0 lt
    ∙ ap (λ front. front ++ get_or text place 0 ∷ []) spelled
    ∙ ap (λ b. map byte_of (characters place care value) ++ b ∷ []) (sym here)
    ∙ sym (map-append byte_of (characters place care value) (bit_of c ∷ []))
    ∙ ap (map byte_of) (sym (characters-push place care value c))
    ∙ ap (λ n. map byte_of (characters n (2 * care + care_of c) (2 * value + value_of c))) (sym one_more)

-- what is written for a character is one
pub byte_is_character : (c : Character) (byte : ℕ) → byte_of (bit_of c) ≡ byte → IsCharacter byte
byte_is_character Zero byte e = grind arith
byte_is_character One byte e = grind arith
byte_is_character Dash byte e = grind arith

-- a number with one more bit stays below the next power of two
pub below-push : (n b k : ℕ) → b < 2 → n < 2 ^ k → 2 * n + b < 2 ^ (k + 1)
below-push n b k lb lt =
    let one_more : k + 1 ≡ suc k = omega arith in
    let twice : 2 ^ suc k ≡ 2 ^ k + 2 ^ k = omega arith in
    rw (one_more, twice) (omega arith)
