-- Searches that keep the lesser of what they found.
use Rattle.std.proofs.Common.{◌≡◌, ℕ, ◌⊎◌, min, Bool, true, false, Option, Some, None, IsSome, IfSome, inl, inr, sym, ◌∙◌, subst, refl, arith}
use Rattle.std.proofs.lemmas.Bool.{cases_lt, true≢false}
use Rattle.state_rows.specs.Least.{IsMetBy, lesser_of}

pub met_left : (a b : Option ℕ) (least : Bool) (y : ℕ) → IsMetBy a least y → IsMetBy (lesser_of a b) least y
met_left None b least y met = absurd met
met_left (Some x) None least y met = met
met_left (Some x) (Some z) least y met = λ asked. omega (arith, met asked)

pub met_right : (a b : Option ℕ) (least : Bool) (y : ℕ) → IsMetBy b least y → IsMetBy (lesser_of a b) least y
met_right None b least y met = met
met_right (Some x) None least y met = absurd met
met_right (Some x) (Some z) least y met = λ asked. omega (arith, met asked)

-- what both that were found have, the lesser has
pub lesser_has : (P : ℕ → Type 0) (a b : Option ℕ) → IfSome a P → IfSome b P → IfSome (lesser_of a b) P
lesser_has P None b first second = second
lesser_has P (Some x) None first second = first
lesser_has P (Some x) (Some y) first second =
    elim (cases_lt x y) [
      | inl lower ↦ let it : x ≡ min x y = omega arith in subst P it first
      | inr no_lower ↦ let it : y ≡ min x y = omega arith in subst P it second
    ]

-- a search for any is done with the first that it finds
pub met_settled : (found : Option ℕ) (least : Bool) (y : ℕ) → IsSome found → least ≡ false → IsMetBy found least y
met_settled None least y some any = absurd (true≢false (sym some))
met_settled (Some x) least y some any = λ asked. absurd (true≢false (sym asked ∙ any))

-- what is the least is so, asked for or not
pub met_least : (found : Option ℕ) (least : Bool) (y : ℕ) → IsMetBy found true y → IsMetBy found least y
met_least None least y met = met
met_least (Some x) least y met = λ asked. met refl

pub if_some_map : (P R : ℕ → Type 0) (a : Option ℕ) → ((x : ℕ) → P x → R x) → IfSome a P → IfSome a R
if_some_map P R None f has = tt
if_some_map P R (Some x) f has = f x has

-- the lesser of what two searches found
module _ (P R : ℕ → Type 0) (a b : Option ℕ) where
  pub lesser_either : IfSome a P → IfSome b R → IfSome (lesser_of a b) (λ x. P x ⊎ R x)
  lesser_either first second =
      lesser_has (λ x. P x ⊎ R x) a b (if_some_map P (λ x. P x ⊎ R x) a (λ x has. inl has) first) (if_some_map R (λ x. P x ⊎ R x) b (λ x has. inr has) second)

  pub met_either : (least : Bool) → ((y : ℕ) → P y → IsMetBy a least y) → ((y : ℕ) → R y → IsMetBy b least y)
      → (y : ℕ) → P y ⊎ R y → IsMetBy (lesser_of a b) least y
  met_either least first second y (inl has) = met_left a b least y (first y has)
  met_either least first second y (inr has) = met_right a b least y (second y has)
