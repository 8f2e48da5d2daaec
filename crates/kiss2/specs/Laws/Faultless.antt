-- Lines without a fault.
use Rattle.std.proofs.Common.{◌≡◌, ℕ, zero, suc, ◌<◌, List, [], ◌∷◌, ◌++◌, length, take, Some, None, ap, sym, ◌∙◌, refl, subst, inl, inr, arith}
use Rattle.std.specs.Prelude.{slice_get}
use Rattle.std.proofs.lemmas.Bool.{cases_lt}
use Rattle.std.proofs.lemmas.List.{length_push, take-append-le, take_at}
use Rattle.std.proofs.lemmas.Option.{none-some, same_Some, slice_get_within}
use Rattle.hs_io.specs.declared.lines.Line.{Line}
use Rattle.kiss2.specs.Faults.{fault_in}
use Rattle.kiss2.specs.Kiss.{HaveNoFault}

-- one line more without a fault
pub faultless_push : (before : List Line) (line : Line) → HaveNoFault before → fault_in before line ≡ None → HaveNoFault (before ++ line ∷ [])
faultless_push before line none here place other stands =
    elim (cases_lt place (length before)) [
      | inl less ↦
          let there : slice_get before place ≡ Some other = sym (get_left before line place less) ∙ stands in
          subst (λ front. fault_in front other ≡ None) (sym (take-append-le place before (line ∷ []) (omega arith))) (none place other there)
      | inr more ↦
          let within : place < length (before ++ line ∷ []) = slice_get_within (before ++ line ∷ []) place other stands in
          let last : place ≡ length before = omega (arith, length_push before line) in
          let same : line ≡ other = same_Some line other (sym (get_last before line) ∙ (ap (λ n. slice_get (before ++ line ∷ []) n) (sym last) ∙ stands)) in
          subst (λ l. fault_in (take place (before ++ line ∷ [])) l ≡ None) same
          (subst (λ front. fault_in front line ≡ None) (sym (take_at before (line ∷ []) place (sym last))) here)
    ] where
      get_left : (xs : List Line) (y : Line) (k : ℕ) → k < length xs → slice_get (xs ++ y ∷ []) k ≡ slice_get xs k
      get_left [] y k lt = absurd (omega arith)
      get_left (x ∷ xs) y zero lt = refl
      get_left (x ∷ xs) y (suc k) lt = get_left xs y k (omega arith)

      get_last : (xs : List Line) (y : Line) → slice_get (xs ++ y ∷ []) (length xs) ≡ Some y
      get_last [] y = refl
      get_last (x ∷ xs) y = get_last xs y

pub faultless_none : HaveNoFault []
faultless_none place line stands = absurd (none-some line stands)
