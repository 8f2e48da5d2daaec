-- Words with one symbol more at their end.
use Rattle.std.proofs.Common.{◌≡◌, ℕ, suc, ◌+◌, ◌*◌, ◌^◌, ◌<◌, Bool, true, false, All, List, [], ◌∷◌, ◌++◌, length, refl, ap, sym, ◌∙◌, subst, arith, append_assoc, length-append}
use Rattle.std.proofs.Math.Nat.{add-mul}
use Rattle.std.proofs.lemmas.List.{append-nil, get_or_append_left, length_push}
use Rattle.std.proofs.lemmas.List.Elements.{All-contains, All-push, Contains-push}
use Rattle.std.proofs.lemmas.Nat.{pow-add}
use Rattle.cubes.specs.Symbol.{number_of}
use Rattle.kiss_file.specs.declared.file.KissFile.{KissFile}
use Rattle.kiss_file.specs.Machine.{next}
use Rattle.machine_table.specs.NextStates.{NeverLeaves}
use Rattle.shift_real.specs.Register.{bits_of, latch_values, word_number}
use Rattle.shift_real.specs.Words.{IsWord, next_along}

-- ---- what a word with one symbol more is
pub longer_next : (F : KissFile) (s : ℕ) (word : List (List Bool)) (x : List Bool) → next_along F s (word ++ x ∷ []) ≡ next F (next_along F s word) x
longer_next F s [] x = refl
longer_next F s (y ∷ word) x = longer_next F (next F s y) word x

pub longer_latches : (word : List (List Bool)) (x : List Bool) → latch_values (word ++ x ∷ []) ≡ x ++ latch_values word
longer_latches [] x = sym (append-nil x)
longer_latches (y ∷ word) x = ap (λ (bits : List Bool). bits ++ y) (longer_latches word x) ∙ append_assoc x (latch_values word) y

longer_bits : (word : List (List Bool)) (x : List Bool) → bits_of (word ++ x ∷ []) ≡ bits_of word ++ x
longer_bits [] x = append-nil x
longer_bits (y ∷ word) x = ap (λ (bits : List Bool). y ++ bits) (longer_bits word x) ∙ sym (append_assoc y (bits_of word) x)

-- ---- its number
number-append : (p q : List Bool) → number_of (p ++ q) ≡ number_of p * 2 ^ length q + number_of q
unfolding number_of
number-append [] q = omega arith
number-append (true ∷ p) q =
    let power : 2 ^ length (p ++ q) ≡ 2 ^ length p * 2 ^ length q = ap (λ (n : ℕ). 2 ^ n) (length-append p q) ∙ pow-add 2 (length p) (length q) in
    omega (arith, power, number-append p q, add-mul (2 ^ length p) (number_of p) (2 ^ length q))
number-append (false ∷ p) q =
    let none : 0 + number_of p ≡ number_of p = omega arith in
    let same : (0 + number_of p) * 2 ^ length q ≡ number_of p * 2 ^ length q = ap (λ (n : ℕ). n * 2 ^ length q) none in
    omega (arith, number-append p q, same)

pub longer_number : (word : List (List Bool)) (x : List Bool) → word_number (word ++ x ∷ []) ≡ word_number word * 2 ^ length x + number_of x
longer_number word x = ap number_of (longer_bits word x) ∙ number-append (bits_of word) x

-- ---- words of one symbol more
pub longer_word : (F : KissFile) (k : ℕ) (word : List (List Bool)) (x : List Bool) → IsWord F k word → length x ≡ F.inputs → IsWord F (k + 1) (word ++ x ∷ [])
longer_word F k word x is long = record {
  count = omega (arith, is.count, length_push word x);
  symbols = All-push (λ y. length y ≡ F.inputs) word x is.symbols long;
}

-- a word as a shorter one and its last symbol
pub record IsLonger (F : KissFile) (k : ℕ) (longer : List (List Bool)) : Type 0 where
  pub word : List (List Bool)
  pub x : List Bool
  pub is : longer ≡ word ++ x ∷ []
  pub is_word : IsWord F k word
  pub symbol : length x ≡ F.inputs

parted : (y : List Bool) (word : List (List Bool)) → (front : List (List Bool)) × (last : List Bool) × (y ∷ word ≡ front ++ last ∷ [])
parted y [] = ([], y, refl)
parted y (z ∷ word) =
    let rest = parted z word in
    (y ∷ rest.0, rest.1, ap (λ (list : List (List Bool)). y ∷ list) rest.2)

all_front : (P : List Bool → Type 0) (front : List (List Bool)) (last : List Bool) → All P (front ++ last ∷ []) → All P front
all_front P front last all k d lt =
    subst P (get_or_append_left front (last ∷ []) d k lt) (all k d (omega (arith, lt, length_push front last)))

pub shorter_word : (F : KissFile) (k : ℕ) (longer : List (List Bool)) → IsWord F (k + 1) longer → IsLonger F k longer
shorter_word F k [] is = absurd (let none = is.count in omega arith)
shorter_word F k (y ∷ word) is =
    let parts = parted y word in
    let all : All (λ z. length z ≡ F.inputs) (parts.0 ++ parts.1 ∷ []) = subst (All (λ z. length z ≡ F.inputs)) parts.2 is.symbols in
    record {
      word = parts.0;
      x = parts.1;
      is = parts.2;
      is_word = record {
        count = omega (arith, is.count, ap length parts.2, length_push parts.0 parts.1);
        symbols = all_front (λ z. length z ≡ F.inputs) parts.0 parts.1 all;
      };
      symbol = All-contains (λ z. length z ≡ F.inputs) (parts.0 ++ parts.1 ∷ []) parts.1 all (Contains-push parts.0 parts.1);
    }

pub no_symbols : (F : KissFile) → IsWord F 0 []
no_symbols F = record { count = refl; symbols = λ k d lt. absurd (omega arith) }

-- the machine stays in its states
pub stays_along : (F : KissFile) (k s : ℕ) (word : List (List Bool)) → NeverLeaves F → s < length F.states → All (λ x. length x ≡ F.inputs) word → next_along F s word < length F.states
stays_along F k s [] stays within long = within
stays_along F k s (x ∷ word) stays within long =
    stays_along F k (next F s x) word stays (stays s x within (long 0 x (omega arith))) (λ i d lt. long (suc i) d (omega (arith, lt)))
