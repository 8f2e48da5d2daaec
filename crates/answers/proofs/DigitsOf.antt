-- The digits of symbols, one more at a time.
use Rattle.std.proofs.Common.{◌≡◌, ℕ, suc, ◌+◌, ◌-◌, ◌<◌, ◌≤◌, List, [], ◌∷◌, ◌++◌, map, refl, sym, ap, ◌∙◌, arith, append_assoc, append-nil}
use Rattle.cubes.specs.Symbol.{bit, digit, symbol_of}

-- the bits from a place on are the one there and those after it
symbol_from : (width place number : ℕ) → place < width → symbol_of (width - place) number ≡ bit number (width - 1 - place) ∷ symbol_of (width - (place + 1)) number
unfolding symbol_of
symbol_from width place number h =
    let e : width - place ≡ suc (width - (place + 1)) = omega arith in
    let f : width - 1 - place ≡ width - (place + 1) = omega arith in
    rw (e, f) refl

-- one digit more
pub symbol_more : (all text new : List ℕ) (width place number d : ℕ) → place < width → text ++ map digit (symbol_of (width - place) number) ≡ all → new ≡ text ++ d ∷ [] → d ≡ digit (bit number (width - 1 - place)) → new ++ map digit (symbol_of (width - (place + 1)) number) ≡ all
symbol_more all text new width place number d h before pushed e =
    ap (λ (xs : List ℕ). xs ++ map digit (symbol_of (width - (place + 1)) number)) pushed
    ∙ append_assoc text (d ∷ []) (map digit (symbol_of (width - (place + 1)) number))
    ∙ ap (λ (c : ℕ). text ++ c ∷ map digit (symbol_of (width - (place + 1)) number)) e
    ∙ sym (ap (λ xs. text ++ map digit xs) (symbol_from width place number h))
    ∙ before

-- all digits
pub symbol_done : (text all : List ℕ) (width place number : ℕ) → width ≤ place → text ++ map digit (symbol_of (width - place) number) ≡ all → text ≡ all
unfolding symbol_of
symbol_done text all width place number h before =
    let none : width - place ≡ 0 = omega arith in
    sym (append-nil text) ∙ ap (λ (n : ℕ). text ++ map digit (symbol_of n number)) (sym none) ∙ before
