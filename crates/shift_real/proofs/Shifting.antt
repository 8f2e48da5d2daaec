-- The content of the register at the next symbol.
use Rattle.std.proofs.Common.{◌≡◌, ℕ, suc, ◌*◌, Bool, All, List, [], ◌∷◌, ◌++◌, length, take, ap, sym, ◌∙◌, subst, arith, append_assoc, length-append}
use Rattle.std.proofs.Math.Nat.{suc-mul, zero-mul}
use Rattle.std.proofs.lemmas.List.{length_push, take_at}
use Rattle.std.proofs.lemmas.List.Elements.{All-head, All-push, All-tail}
use Rattle.kiss_file.specs.declared.file.KissFile.{KissFile}
use Rattle.kiss_file.specs.Machine.{next}
use Rattle.shift_real.specs.Laws.{ContentsTellStates, LatchesFollow, StatesFollow}
use Rattle.shift_real.specs.Register.{latch_values, shifted}
use Rattle.shift_real.specs.Words.{IsWord}
use Rattle.shift_real.proofs.LongerWords.{longer_latches, longer_next}

pub contents_tell : ContentsTellStates
contents_tell F k s word definite reset within is = definite s F.reset within reset word is

-- the word after the oldest symbol has left
moved_on : (F : KissFile) (k : ℕ) (oldest : List Bool) (word : List (List Bool)) (x : List Bool) → IsWord F k (oldest ∷ word) → length x ≡ F.inputs → IsWord F k (word ++ x ∷ [])
moved_on F k oldest word x is long = record {
  count = omega (arith, is.count, length_push word x);
  symbols = All-push (λ y. length y ≡ F.inputs) word x (All-tail (λ y. length y ≡ F.inputs) oldest word is.symbols) long;
}

pub shifted_word : (F : KissFile) (k : ℕ) (word : List (List Bool)) (x : List Bool) → IsWord F k word → length x ≡ F.inputs → IsWord F k (shifted word x)
shifted_word F k [] x is long = is
shifted_word F k (oldest ∷ word) x is long = moved_on F k oldest word x is long

pub states_follow : StatesFollow
states_follow F k [] x stays definite reset is long = definite F.reset (next F F.reset x) reset (stays F.reset x reset long) [] is
states_follow F k (oldest ∷ word) x stays definite reset is long =
    let first : length oldest ≡ F.inputs = All-head (λ y. length y ≡ F.inputs) oldest word is.symbols in
    definite F.reset (next F F.reset oldest) reset (stays F.reset oldest reset first) (word ++ x ∷ []) (moved_on F k oldest word x is long)
    ∙ longer_next F (next F F.reset oldest) word x

-- there are as many latches as bits of the word
pub latch_count : (n : ℕ) (word : List (List Bool)) → All (λ y. length y ≡ n) word → length (latch_values word) ≡ length word * n
latch_count n [] all = sym (zero-mul n)
latch_count n (x ∷ word) all =
    omega (
      arith,
      length-append (latch_values word) x,
      All-head (λ y. length y ≡ n) x word all,
      latch_count n word (All-tail (λ y. length y ≡ n) x word all),
      suc-mul (length word) n,
    )

pub latches_follow : LatchesFollow
latches_follow F k [] x is long =
    subst (λ (n : ℕ). [] ≡ take (n * F.inputs) (x ++ [])) is.count (ap (λ (m : ℕ). take m (x ++ [])) (sym (zero-mul F.inputs)))
latches_follow F k (oldest ∷ word) x is long =
    let kept : List Bool = x ++ latch_values word in
    let bits : length (latch_values word) ≡ length word * F.inputs = latch_count F.inputs word (All-tail (λ y. length y ≡ F.inputs) oldest word is.symbols) in
    let all : suc (length word) * F.inputs ≡ k * F.inputs = ap (λ (n : ℕ). n * F.inputs) is.count in
    let count : length kept ≡ k * F.inputs = omega (arith, length-append x (latch_values word), long, bits, all, suc-mul (length word) F.inputs) in
    longer_latches word x
    ∙ (sym (take_at kept oldest (k * F.inputs) count) ∙ ap (take (k * F.inputs)) (append_assoc x (latch_values word) oldest))
