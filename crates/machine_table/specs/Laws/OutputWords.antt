-- Numbers whose bits are outputs.
use Rattle.std.proofs.Common.{◌≡◌, ℕ, ◌+◌, ◌*◌, ◌<◌, ◌≤◌, ◌^◌, Bool, true, false, List, [], ◌∷◌, ◌++◌, length, map, drop, get_or, inl, inr, sym, ◌∙◌, subst, arith, ap, append_assoc, add-one}
use Rattle.std.proofs.Math.Seq.{drop-cons}
use Rattle.std.proofs.lemmas.Bool.{cases_lt}
use Rattle.std.proofs.lemmas.List.{append-nil, drop_all, map-append}
use Rattle.std.proofs.lemmas.List.FromFn.{fill_by_all, length-map-range_with_len, get_or-map-range_with_len}
use Rattle.std.proofs.lemmas.Nat.Bits.{bit_at_cat_low}
use Rattle.std.specs.Int.{bit_at}
use Rattle.std.specs.List.{range_with_len}
use Rattle.cubes.specs.Symbol.{bit, symbol_of, lowest_bits}
use Rattle.cubes.specs.Laws.Bits.{same_bits}
use Rattle.cubes.specs.Laws.Numbers.{bit-above, bit-top}
use Rattle.kiss_file.specs.declared.file.KissFile.{KissFile}
use Rattle.kiss_file.specs.Machine.{answers, next, out}

-- one more bit of a number is known
module _ (value : ℕ → Bool) (word b : ℕ) (below : word < 2 ^ b) (bits : (k : ℕ) → k < b → bit word k ≡ value k) where
  pub bits_with_one : value b ≡ true → (k : ℕ) → k < b + 1 → bit (word + 2 ^ b) k ≡ value k
  bits_with_one one k within =
      let turned : word + 2 ^ b ≡ 2 ^ b + word = omega arith in
      let cat : 2 ^ b + word ≡ 1 * 2 ^ b + word = omega arith in
      elim (cases_lt k b) [
        | inl lower ↦ same_bits (word + 2 ^ b) word k k (ap (λ n. bit_at n k) (turned ∙ cat) ∙ bit_at_cat_low 1 b word k lower) ∙ bits k lower
        | inr here ↦
            let same : b ≡ k = omega arith in
            subst (λ (n : ℕ). bit (word + 2 ^ b) n ≡ value n) same (ap (λ n. bit n b) turned ∙ bit-top b word below ∙ sym one)
      ]

  pub bits_with_none : value b ≡ false → (k : ℕ) → k < b + 1 → bit word k ≡ value k
  bits_with_none none k within =
      elim (cases_lt k b) [
        | inl lower ↦ bits k lower
        | inr here ↦
            let same : b ≡ k = omega arith in
            subst (λ (n : ℕ). bit word n ≡ value n) same (bit-above b word below ∙ sym none)
      ]

-- lists of the same values at so many places
pub same_map : (f g : ℕ → Bool) (n : ℕ) → ((k : ℕ) → k < n → f k ≡ g k) → map f (range_with_len 0 n) ≡ map g (range_with_len 0 n)
same_map f g n same =
    fill_by_all g (map f (range_with_len 0 n)) n false (length-map-range_with_len f 0 n)
    (λ k within. get_or-map-range_with_len f 0 n k k false within (omega arith) ∙ same k within)

-- the other way round
pub same_values : (f g : ℕ → Bool) (n : ℕ) → map f (range_with_len 0 n) ≡ map g (range_with_len 0 n) → (k : ℕ) → k < n → f k ≡ g k
same_values f g n same k within =
    sym (get_or-map-range_with_len f 0 n k k false within (omega arith))
    ∙ ap (λ xs. get_or xs k false) same
    ∙ get_or-map-range_with_len g 0 n k k false within (omega arith)

-- one more symbol of a word was walked
pub walked_more : (F : KissFile) (s : ℕ) (words : List ℕ) (word i : ℕ) (symbols : List ℕ) (all : List (List Bool)) → i < length symbols
    → lowest_bits F.outputs word ≡ out F s (symbol_of F.inputs (get_or symbols i 0))
    → map (lowest_bits F.outputs) words ++ answers F s (map (symbol_of F.inputs) (drop i symbols)) ≡ all
    → map (lowest_bits F.outputs) (words ++ word ∷ []) ++ answers F (next F s (symbol_of F.inputs (get_or symbols i 0))) (map (symbol_of F.inputs) (drop (i + 1) symbols)) ≡ all
walked_more F s words word i symbols all inside outputs known =
    let x = symbol_of F.inputs (get_or symbols i 0) in
    let rest = map (symbol_of F.inputs) (drop (i + 1) symbols) in
    let cut : get_or symbols i 0 ∷ drop (i + 1) symbols ≡ drop i symbols = rw add-one (sym (drop-cons symbols i 0 inside)) in
    ap (λ (list : List (List Bool)). list ++ answers F (next F s x) rest) (map-append (lowest_bits F.outputs) words (word ∷ []))
    ∙ append_assoc (map (lowest_bits F.outputs) words) (lowest_bits F.outputs word ∷ []) (answers F (next F s x) rest)
    ∙ ap (λ (first : List Bool). map (lowest_bits F.outputs) words ++ first ∷ answers F (next F s x) rest) outputs
    ∙ ap (λ (list : List ℕ). map (lowest_bits F.outputs) words ++ answers F s (map (symbol_of F.inputs) list)) cut
    ∙ known

-- the whole word was walked
pub walked : (F : KissFile) (s : ℕ) (words : List ℕ) (i : ℕ) (symbols : List ℕ) (all : List (List Bool)) → length symbols ≤ i
    → map (lowest_bits F.outputs) words ++ answers F s (map (symbol_of F.inputs) (drop i symbols)) ≡ all
    → map (lowest_bits F.outputs) words ≡ all
walked F s words i symbols all past known =
    sym (append-nil (map (lowest_bits F.outputs) words))
    ∙ ap (λ (list : List ℕ). map (lowest_bits F.outputs) words ++ answers F s (map (symbol_of F.inputs) list)) (sym (drop_all i symbols past))
    ∙ known
