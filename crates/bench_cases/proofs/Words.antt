-- The words of a line come one after another.
use Rattle.std.proofs.Common.{◌≡◌, ◌∙◌, ap, sym, subst, refl, List, [], ◌∷◌, ◌++◌, append_assoc, append-nil}
use Rattle.std.specs.Prelude.{Option, Some, None}
use Rattle.std.specs.Iterator.{AlwaysYields}
use Rattle.std.proofs.lemmas.Iterator.{YieldsList}

module _ {S A B : Type 0} (steps : S → Option A → S → Type 0) (v : A → B) (all : List B) where
  -- some of the list have come, and the others are to come from this state
  pub record HaveCome (came : List B) (s : S) : Type 0 where
    pub rest : List B
    pub parts : all ≡ came ++ rest
    pub left : AlwaysYields steps v s rest

  next_of : (came rest : List B) (s : S) (x : A) (t : S) → all ≡ came ++ rest → AlwaysYields steps v s rest → steps s (Some x) t → HaveCome (came ++ v x ∷ []) t
  next_of came [] s x t parts left step = absurd (left x t step)
  next_of came (y ∷ rest) s x t parts left step =
      let turn = left.1 x t step in
      record { rest = rest; parts = parts ∙ ap (λ b. came ++ b ∷ rest) (sym turn.0) ∙ sym (append_assoc came (v x ∷ []) rest); left = turn.1 }

  end_of : (came rest : List B) (s t : S) → all ≡ came ++ rest → AlwaysYields steps v s rest → steps s None t → all ≡ came
  end_of came [] s t parts left step = parts ∙ append-nil came
  end_of came (y ∷ rest) s t parts left step = absurd (left.0 t step)

module _ {S A B : Type 0} {steps : S → Option A → S → Type 0} {v : A → B} {all : List B} where
  pub none_came : {s : S} → YieldsList steps v s all → HaveCome steps v all [] s
  none_came gives = record { rest = all; parts = refl; left = gives.runs }

  pub one_more : {came : List B} {s t : S} {r : Option A} {x : A} → HaveCome steps v all came s → r ≡ Some x → steps s r t → HaveCome steps v all (came ++ v x ∷ []) t
  one_more {came} {s} {t} {r} {x} have is step = next_of steps v all came have.rest s x t have.parts have.left (subst (λ o. steps s o t) is step)

  pub no_more : {came : List B} {s t : S} {r : Option A} → HaveCome steps v all came s → r ≡ None → steps s r t → all ≡ came
  no_more {came} {s} {t} {r} have is step = end_of steps v all came have.rest s t have.parts have.left (subst (λ o. steps s o t) is step)
