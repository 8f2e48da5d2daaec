use Rattle.std.proofs.Common.{◌≡◌, ℕ, ◌%◌, ◌^◌, ◌∙◌, ⊎_elim, inl, inr, false, List, [], ◌∷◌, ◌++◌, Option, Some, None, length, replicate, get_or, sym, ap, arith}
use Rattle.std.specs.Option.{is_some}
use Rattle.std.proofs.lemmas.Bool.{false≢true}
use Rattle.std.proofs.lemmas.List.{get_or-replicate, length-replicate}
use Rattle.std.proofs.lemmas.List.Elements.{All-nil, All-push}
use Rattle.cover_terms.specs.declared.term.Term.{Term}
use Rattle.cover_terms.specs.Term.{FitsWidth}
use Rattle.cover_terms.specs.Charts.{IsFilled, IsFound}
use Rattle.cover_logic.specs.Inner.Rows.{IsAllHeld, IsMetOrClear}
use Rattle.cover_logic.specs.Inner.Tables.{AreMarks}
use Rattle.cover_terms.specs.Laws.Lists.{held_left, held_none, held_push, held_push_cases}
use Rattle.cover_logic.proofs.Width.{held_from_low, held_low, holds_low, low_is_value}

pub marks_none : (w : ℕ) (marks : List ℕ) → marks ≡ replicate (2 ^ w) 0 → AreMarks w [] marks
marks_none w marks e = record {
  size = ap length e ∙ length-replicate (2 ^ w) 0;
  fits = All-nil (FitsWidth w);
  one = λ x below h. absurd (held_none x h);
  zero = λ x below. inl (ap (λ (ns : List ℕ). get_or ns x 0) e ∙ get_or-replicate (2 ^ w) x 0 0 below);
}

-- with a 1 at each value of one term more
pub marks_more : (w : ℕ) (terms : List Term) (t : Term) (before after : List ℕ) → AreMarks w terms before → FitsWidth w t → IsFilled w t 1 before after → AreMarks w (terms ++ t ∷ []) after
marks_more w terms t before after m fits f = record {
  size = f.size ∙ m.size;
  fits = All-push (FitsWidth w) terms t m.fits fits;
  one = λ x below h. ⊎_elim
      (λ k. ⊎_elim (λ same. same ∙ m.one x below k) (λ p. f.all x below p) (f.rest x below)) (λ p. f.all x below p) (held_push_cases terms t x h);
  zero = λ x below. ⊎_elim
      (λ same. ⊎_elim (λ none. inl (same ∙ none)) (λ k. inr (held_left terms (t ∷ []) x k)) (m.zero x below))
      (λ p. inr (held_push terms t x p)) (f.rest x below);
}

-- a 1 at a value of the row, or none
pub met_or_clear : (w : ℕ) (terms : List Term) (marks : List ℕ) (row : Term) (found : Option ℕ) → AreMarks w terms marks → FitsWidth w row → IsFound w row 1 marks found → IsMetOrClear terms row (is_some found)
met_or_clear w terms marks row (Some x) m fits h = (x, ⊎_elim (λ none. absurd (other _ none h.2)) (λ k. k) (m.zero x h.0), h.1)
  where
    other : (n : ℕ) → n ≡ 0 → n ≡ 1 → ⊥
    other n e f = omega arith
met_or_clear w terms marks row None m fits h = λ x p held.
    h (x % 2 ^ w) (low_is_value w x) (holds_low w row fits x p) (m.one (x % 2 ^ w) (low_is_value w x) (held_low w terms m.fits x held))

-- no 0 at a value of the row
pub all_held : (w : ℕ) (terms : List Term) (marks : List ℕ) (row : Term) (found : Option ℕ) → AreMarks w terms marks → FitsWidth w row → IsFound w row 0 marks found → is_some found ≡ false → IsAllHeld terms row
all_held w terms marks row (Some x) m fits h none = absurd (false≢true (sym none))
all_held w terms marks row None m fits h none = λ x p. held_from_low w terms m.fits x
    (⊎_elim (λ z. absurd (h (x % 2 ^ w) (low_is_value w x) (holds_low w row fits x p) z)) (λ k. k) (m.zero (x % 2 ^ w) (low_is_value w x)))
