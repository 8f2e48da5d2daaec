-- A number is the word of its bits, and the pieces of a state say its outputs.
use Rattle.std.proofs.Common.{◌≡◌, ℕ, zero, suc, ◌+◌, ◌*◌, ◌%◌, ◌^◌, ◌<◌, Bool, cond, Contains, List, get_or, length, sym, ap, ◌∙◌, subst, inl, inr, arith}
use Rattle.std.proofs.Math.Nat.{mod-one}
use Rattle.std.proofs.lemmas.Nat.{mod-pow-add, mod_low}
use Rattle.std.specs.Int.{bit_at}
use Rattle.std.proofs.lemmas.Bool.{cases_Bool}
use Rattle.cubes.specs.Laws.Numbers.{digit_times, pow-suc}
use Rattle.cubes.specs.Cube.{HoldsNumber}
use Rattle.cubes.specs.Symbol.{bit, symbol_of}
use Rattle.kiss_file.specs.declared.file.KissFile.{KissFile}
use Rattle.kiss_file.specs.Machine.{output_bit}
use Rattle.machine_table.specs.Pieces.{IsPiece}
use Rattle.machine_table.specs.declared.pieces.Piece.{Piece}
use Rattle.machine_table.specs.Laws.OutputWords.{bits_with_none, bits_with_one, same_values}
use Rattle.io_pairs.specs.Outputs.{output_word, word_of}

low_bits : (bits : ℕ → Bool) (count n : ℕ) → ((b : ℕ) → b < count → bit n b ≡ bits b) → word_of bits count ≡ n % 2 ^ count
low_bits bits zero n same = sym (mod-one n)
low_bits bits (suc b) n same =
    let rest : word_of bits b ≡ n % 2 ^ b = low_bits bits b n (λ k below. same k (omega arith)) in
    let one_more : 1 + b ≡ suc b = omega arith in
    let whole : n % 2 ^ suc b ≡ bit_at n b * 2 ^ b + n % 2 ^ b = rw one_more at (mod-pow-add n 1 b) in
    let top : cond (bits b) (2 ^ b) 0 ≡ bit_at n b * 2 ^ b = ap (λ (v : Bool). cond v (2 ^ b) 0) (sym (same b (omega arith))) ∙ digit_times n b in
    omega (arith, rest, whole, top)

pub word_is : (bits : ℕ → Bool) (count n : ℕ) → n < 2 ^ count → ((b : ℕ) → b < count → bit n b ≡ bits b) → n ≡ word_of bits count
word_is bits count n below same =
    let plain : 0 * 2 ^ count + n ≡ n = omega arith in
    let whole : n % 2 ^ count ≡ n = rw plain at (mod_low 0 count n below) in
    sym whole ∙ sym (low_bits bits count n same)

-- the bits of a word are its bits
pub word_below : (bits : ℕ → Bool) (count : ℕ) → word_of bits count < 2 ^ count
word_below bits zero = omega arith
word_below bits (suc b) =
    let so_far = word_below bits b in
    let twice : 2 ^ suc b ≡ 2 ^ b + 2 ^ b = pow-suc b in
    elim (cases_Bool (bits b)) [
      | inl one ↦ omega (arith, ap (λ (v : Bool). word_of bits b + cond v (2 ^ b) 0) one)
      | inr none ↦ omega (arith, ap (λ (v : Bool). word_of bits b + cond v (2 ^ b) 0) none)
    ]

pub word_bits : (bits : ℕ → Bool) (count : ℕ) → (k : ℕ) → k < count → bit (word_of bits count) k ≡ bits k
word_bits bits zero k within = absurd (omega arith)
word_bits bits (suc b) k within =
    let plain : word_of bits b + 0 ≡ word_of bits b = omega arith in
    elim (cases_Bool (bits b)) [
      | inl one ↦
          ap (λ (v : Bool). bit (word_of bits b + cond v (2 ^ b) 0) k) one
          ∙ bits_with_one bits (word_of bits b) b (word_below bits b) (word_bits bits b) one k (omega arith)
      | inr none ↦
          ap (λ (v : Bool). bit (word_of bits b + cond v (2 ^ b) 0) k) none ∙ ap (λ (n : ℕ). bit n k) plain
          ∙ bits_with_none bits (word_of bits b) b (word_below bits b) (word_bits bits b) none k (omega arith)
    ]

-- the outputs of a piece are those of the state at each symbol that it holds
pub piece_word : (F : KissFile) (s x : ℕ) (piece : Piece) → x < 2 ^ F.inputs → IsPiece F s piece → HoldsNumber piece.cube x → piece.outputs ≡ output_word F s x
piece_word F s x piece within is held =
    word_is (output_bit F s (symbol_of F.inputs x)) F.outputs piece.outputs is.no_more
    (λ b below. same_values (bit piece.outputs) (output_bit F s (symbol_of F.inputs x)) F.outputs (sym (is.outputs x within held)) b below)

-- some piece of the list holds the symbol
pub none_held : (pieces : List Piece) (x : ℕ) (piece : Piece) → Contains pieces piece → HoldsNumber piece.cube x
    → ((k : ℕ) (d : Piece) → k < length pieces → HoldsNumber (get_or pieces k d).cube x → ⊥) → ⊥
none_held pieces x piece (k, within, is) held none =
    none k piece within (subst (λ (p : Piece). HoldsNumber p.cube x) (sym is) held)
