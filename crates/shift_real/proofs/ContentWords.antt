-- Contents as words, as lists of latch values, and as numbers.
use Rattle.std.proofs.Common.{◌≡◌, ℕ, zero, suc, ◌*◌, ◌^◌, ◌<◌, Bool, false, All, List, [], ◌∷◌, ◌++◌, length, get_or, take, drop, refl, ap, sym, ◌∙◌, arith, length-drop}
use Rattle.std.proofs.Math.Nat.{suc-mul}
use Rattle.std.proofs.lemmas.List.{drop_at, take-append-drop, take_at, length-take-le}
use Rattle.std.proofs.lemmas.List.Elements.{All-tail}
use Rattle.std.proofs.lemmas.List.FromFn.{length-map-range_with_len}
use Rattle.std.proofs.lemmas.Nat.Bits.{same_from_bits_below}
use Rattle.cubes.specs.Symbol.{bit, lowest_bits}
use Rattle.cubes.specs.Laws.Bits.{same_digits}
use Rattle.gate_rows.specs.Laws.ReadNumbers.{code_at}
use Rattle.gate_rows.specs.Laws.RowTexts.{number_for}
use Rattle.kiss_file.specs.declared.file.KissFile.{KissFile}
use Rattle.shift_real.specs.Inner.Tables.{content_of, state_at, word_of}
use Rattle.shift_real.specs.Register.{latch_values, state_after}
use Rattle.shift_real.specs.Words.{IsWord}
use Rattle.shift_real.proofs.Shifting.{latch_count}

-- ---- bits as a word
word_count : (k n : ℕ) (bits : List Bool) → length (word_of k n bits) ≡ k
word_count zero n bits = refl
word_count (suc k) n bits = omega (arith, word_count k n (take (k * n) bits))

front_length : (k n : ℕ) (bits : List Bool) → length bits ≡ suc k * n → length (take (k * n) bits) ≡ k * n
front_length k n bits long = length-take-le (k * n) bits (omega (arith, long, suc-mul k n))

word_symbols : (k n : ℕ) (bits : List Bool) → length bits ≡ k * n → All (λ x. length x ≡ n) (word_of k n bits)
word_symbols zero n bits long i d lt = absurd (omega arith)
word_symbols (suc k) n bits long zero d lt = length-drop (k * n) bits ∙ omega (arith, long, suc-mul k n)
word_symbols (suc k) n bits long (suc i) d lt = word_symbols k n (take (k * n) bits) (front_length k n bits long) i d (omega (arith, lt))

no_bits : (bits : List Bool) → length bits ≡ 0 → [] ≡ bits
no_bits [] none = refl
no_bits (b ∷ bits) none = absurd (omega (arith, none))

pub latch_values_of : (k n : ℕ) (bits : List Bool) → length bits ≡ k * n → latch_values (word_of k n bits) ≡ bits
latch_values_of zero n bits long = no_bits bits (omega (arith, long))
latch_values_of (suc k) n bits long =
    ap (λ (front : List Bool). front ++ drop (k * n) bits) (latch_values_of k n (take (k * n) bits) (front_length k n bits long)) ∙ take-append-drop (k * n) bits

-- ---- a word as bits
pub word_of_latches : (n : ℕ) (word : List (List Bool)) (k : ℕ) → length word ≡ k → All (λ x. length x ≡ n) word → word_of k n (latch_values word) ≡ word
word_of_latches n [] zero is long = refl
word_of_latches n [] (suc k) is long = absurd (omega (arith, is))
word_of_latches n (x ∷ word) zero is long = absurd (omega (arith, is))
word_of_latches n (x ∷ word) (suc k) is long =
    let count : length word ≡ k = omega (arith, is) in
    let rest : All (λ y. length y ≡ n) word = All-tail (λ y. length y ≡ n) x word long in
    let bits : length (latch_values word) ≡ k * n = latch_count n word rest ∙ ap (λ (m : ℕ). m * n) count in
    ap (λ (first : List Bool). first ∷ word_of k n (take (k * n) (latch_values word ++ x))) (drop_at (latch_values word) x (k * n) bits)
    ∙ (ap (λ (front : List Bool). x ∷ word_of k n front) (take_at (latch_values word) x (k * n) bits)
    ∙ ap (λ (more : List (List Bool)). x ∷ more) (word_of_latches n word k count rest))

-- ---- numbers of so many bits
pub code_length : (count number : ℕ) → length (lowest_bits count number) ≡ count
code_length count number = length-map-range_with_len (bit number) 0 count

pub one_number : (count v w : ℕ) → v < 2 ^ count → w < 2 ^ count → lowest_bits count v ≡ lowest_bits count w → v ≡ w
one_number count v w low_v low_w same =
    same_from_bits_below count v w low_v low_w
    (λ i lt. same_digits v w i i (sym (code_at count v i lt) ∙ (ap (λ (bits : List Bool). get_or bits i false) same ∙ code_at count w i lt)))

module _ (F : KissFile) (k : ℕ) where
  pub bits_are_word : (bits : List Bool) → length bits ≡ k * F.inputs → IsWord F k (word_of k F.inputs bits)
  bits_are_word bits long = record { count = word_count k F.inputs bits; symbols = word_symbols k F.inputs bits long }

  pub content_is_word : (number : ℕ) → IsWord F k (content_of F k number)
  content_is_word number = bits_are_word (lowest_bits (k * F.inputs) number) (code_length (k * F.inputs) number)

  pub content_values : (number : ℕ) → latch_values (content_of F k number) ≡ lowest_bits (k * F.inputs) number
  content_values number = latch_values_of k F.inputs (lowest_bits (k * F.inputs) number) (code_length (k * F.inputs) number)

  -- each word is the content of a number
  pub record IsNumbered (word : List (List Bool)) : Type 0 where
    pub number : ℕ
    pub low : number < 2 ^ (k * F.inputs)
    pub values : lowest_bits (k * F.inputs) number ≡ latch_values word
    pub content : content_of F k number ≡ word
    pub state : state_at F k number ≡ state_after F word

  pub values_length : (word : List (List Bool)) → IsWord F k word → length (latch_values word) ≡ k * F.inputs
  values_length word is = latch_count F.inputs word is.symbols ∙ ap (λ (n : ℕ). n * F.inputs) is.count

  pub numbered : (word : List (List Bool)) → IsWord F k word → IsNumbered word
  numbered word is =
      let found = number_for (latch_values word) (k * F.inputs) (values_length word is) in
      let content : content_of F k found.0 ≡ word = ap (word_of k F.inputs) found.2 ∙ word_of_latches F.inputs word k is.count is.symbols in
      record { number = found.0; low = found.1; values = found.2; content = content; state = ap (state_after F) content }

  -- words of the same latch values are one
  pub one_word : (word other : List (List Bool)) → IsWord F k word → IsWord F k other → latch_values word ≡ latch_values other → word ≡ other
  one_word word other is of same =
      sym (word_of_latches F.inputs word k is.count is.symbols) ∙ (ap (word_of k F.inputs) same ∙ word_of_latches F.inputs other k of.count of.symbols)
