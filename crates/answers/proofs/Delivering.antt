-- Which refusal is answered, by what was made and what became of the put of its text.
use Rattle.std.proofs.Common.{◌≡◌, ◌≢◌, ◌⊎◌, ℕ, List, [], Option, Result, Ok, Err, inl, inr, refl, subst, sym, ap, ◌∙◌}
use Rattle.hs_io.specs.Pieces.{Appends, AppendsFront}
use Rattle.answers.specs.declared.refusals.Refusal.{Refusal}
use Rattle.answers.specs.declared.refusals.Refusal.TheVariants.{More, NoMemory, Unwritable}
use Rattle.answers.specs.declared.reports.Page.{Page}
use Rattle.answers.specs.declared.reports.Page.TheVariants.{Evidence, Whole}
use Rattle.answers.specs.Delivery.{IsDone, IsRefusedWith}

module _ (made : Result Page Refusal) (given given' : Option (List ℕ)) (Faulted : Type 0) where
  pub cut_whole : (text front : List ℕ) → made ≡ Ok (Whole text) → front ≡ text → front ≢ [] → AppendsFront given front given' → Faulted → IsRefusedWith made given given' Faulted Unwritable
  cut_whole text front is same some put fault = subst (λ (m : Result Page Refusal). IsRefusedWith m given given' Faulted Unwritable) (sym is) (refl, (front, same, some, put, fault))

  pub cut_evidence : (text front : List ℕ) (limit : ℕ) → made ≡ Ok (Evidence text limit) → front ≡ text → front ≢ [] → AppendsFront given front given' → Faulted → IsRefusedWith made given given' Faulted Unwritable
  cut_evidence text front limit is same some put fault = subst (λ (m : Result Page Refusal). IsRefusedWith m given given' Faulted Unwritable) (sym is) (inr (inl (refl, (front, same, some, put, fault))))

  pub shown : (text put : List ℕ) (limit : ℕ) → made ≡ Ok (Evidence text limit) → put ≡ text → Appends given put given' → IsRefusedWith made given given' Faulted (More limit)
  shown text put limit is same appends = subst (λ (m : Result Page Refusal). IsRefusedWith m given given' Faulted (More limit)) (sym is) (inl (refl, subst (λ (t : List ℕ). Appends given t given') same appends))

  pub wanting : (text : List ℕ) (limit : ℕ) → made ≡ Ok (Evidence text limit) → IsRefusedWith made given given' Faulted NoMemory
  wanting text limit is = subst (λ (m : Result Page Refusal). IsRefusedWith m given given' Faulted NoMemory) (sym is) (inr (inr refl))
