-- Words that bring two states to one, symbol by symbol.
use Rattle.std.proofs.Common.{◌≡◌, ℕ, zero, suc, ◌+◌, Bool, List, [], ◌∷◌, length, refl, ap, subst, arith}
use Rattle.std.proofs.lemmas.List.Elements.{All-cons, All-head, All-tail}
use Rattle.kiss_file.specs.declared.file.KissFile.{KissFile}
use Rattle.kiss_file.specs.Machine.{next}
use Rattle.shift_real.specs.Words.{IsWord, MeetAfter, next_along}

no_symbols : (F : KissFile) → IsWord F 0 []
no_symbols F = record { count = refl; symbols = λ k d lt. absurd (omega arith) }

-- at no symbols the states are one
pub meet_at_once : (F : KissFile) (s t : ℕ) → MeetAfter F 0 s t → s ≡ t
meet_at_once F s t meets = meets [] (no_symbols F)

pub same_meet : (F : KissFile) (k s t : ℕ) → s ≡ t → MeetAfter F k s t
same_meet F k s t same word is = ap (λ (u : ℕ). next_along F u word) same

pub meets_from_steps : (F : KissFile) (k s t : ℕ) → ((x : List Bool) → length x ≡ F.inputs → MeetAfter F k (next F s x) (next F t x)) → MeetAfter F (suc k) s t
meets_from_steps F k s t each [] is = absurd (let none = is.count in omega arith)
meets_from_steps F k s t each (x ∷ word) is =
    each x (All-head (λ y. length y ≡ F.inputs) x word is.symbols) word
    (record { count = (let all = is.count in omega arith); symbols = All-tail (λ y. length y ≡ F.inputs) x word is.symbols })

pub steps_from_meets : (F : KissFile) (k s t : ℕ) → MeetAfter F (suc k) s t → (x : List Bool) → length x ≡ F.inputs → MeetAfter F k (next F s x) (next F t x)
steps_from_meets F k s t meets x long word is =
    meets (x ∷ word) (record { count = ap suc is.count; symbols = All-cons (λ y. length y ≡ F.inputs) x word long is.symbols })

-- longer words do too
meets_later : (F : KissFile) (k s t : ℕ) → MeetAfter F k s t → MeetAfter F (suc k) s t
meets_later F zero s t meets = same_meet F 1 s t (meet_at_once F s t meets)
meets_later F (suc k) s t meets =
    meets_from_steps F (suc k) s t (λ x long. meets_later F k (next F s x) (next F t x) (steps_from_meets F k s t meets x long))

pub meets_next : (F : KissFile) (k s t : ℕ) → MeetAfter F k s t → MeetAfter F (k + 1) s t
meets_next F k s t meets = let e : suc k ≡ k + 1 = omega arith in subst (λ (n : ℕ). MeetAfter F n s t) e (meets_later F k s t meets)

pub meets_long : (F : KissFile) (k i s t : ℕ) → MeetAfter F k s t → MeetAfter F (i + k) s t
meets_long F k zero s t meets = let e : k ≡ 0 + k = omega arith in subst (λ (n : ℕ). MeetAfter F n s t) e meets
meets_long F k (suc i) s t meets = let e : suc (i + k) ≡ suc i + k = omega arith in subst (λ (n : ℕ). MeetAfter F n s t) e (meets_later F (i + k) s t (meets_long F k i s t meets))
