-- What remains of the members: no fewer states apart, and nothing to spare.
use Rattle.std.proofs.Common.{◌≡◌, ℕ, ◌+◌, ◌-◌, ◌<◌, ◌≤◌, inl, inr, All, List, [], ◌∷◌, ◌++◌, length, append_assoc, refl, sym, ap, ◌∙◌, subst, arith}
use Rattle.std.specs.List.{remove}
use Rattle.std.proofs.lemmas.Bool.{cases_lt}
use Rattle.std.proofs.lemmas.List.{append-nil, length_push}
use Rattle.std.proofs.lemmas.List.Edits.{remove-append_left, remove-append_right}
use Rattle.std.proofs.lemmas.List.Elements.{All-append, All-head, All-push, All-tail}
use Rattle.partition.specs.Partition.{Together}
use Rattle.state_codes.specs.Laws.Places.{All-left, All-right}
use Rattle.parallel_split.specs.Choice.{AllMeetInZero, LeavesOut}

-- members of which each is needed beside the others and those still to be asked
abbrev pub AreNeeded : ℕ → List (List ℕ) → List (List ℕ) → Type 0
AreNeeded n kept members = (j : ℕ) → j < length kept → AllMeetInZero n (remove kept j ++ members) → ⊥

-- more partitions have no more states together
fewer_together : (n : ℕ) (front : List (List ℕ)) (p : List ℕ) (members : List (List ℕ)) → AllMeetInZero n (front ++ members) → AllMeetInZero n (front ++ p ∷ members)
fewer_together n front p members zero s t in_s in_t all =
    zero s t in_s in_t (All-append (λ q. Together q s t) front members (All-left (λ q. Together q s t) front (p ∷ members) all) (All-tail (λ q. Together q s t) p members (All-right (λ q. Together q s t) front (p ∷ members) all)))

-- p is needed as well
needed_more : (n : ℕ) (kept : List (List ℕ)) (p : List ℕ) (members : List (List ℕ)) → AreNeeded n kept (p ∷ members) → (AllMeetInZero n (kept ++ members) → ⊥) → AreNeeded n (kept ++ p ∷ []) members
needed_more n kept p members needed needs j within zero =
    elim (cases_lt j (length kept)) [
      | inl before ↦
          let same : remove (kept ++ p ∷ []) j ++ members ≡ remove kept j ++ p ∷ members =
          ap (λ (list : List (List ℕ)). list ++ members) (remove-append_left kept (p ∷ []) j before) ∙ append_assoc (remove kept j) (p ∷ []) members in
          needed j before (subst (AllMeetInZero n) same zero)
      | inr last ↦
          let at : j - length kept ≡ 0 = omega (arith, length_push kept p) in
          let same : remove (kept ++ p ∷ []) j ++ members ≡ kept ++ members =
          ap (λ (list : List (List ℕ)). list ++ members) (remove-append_right kept (p ∷ []) (length kept) j refl last ∙ ap (λ (i : ℕ). kept ++ remove (p ∷ []) i) at ∙ append-nil kept) in
          needs (subst (AllMeetInZero n) same zero)
    ]

pub remaining_needed : (n : ℕ) (kept members remaining : List (List ℕ)) → LeavesOut n kept members remaining → AreNeeded n kept members → AreNeeded n remaining []
remaining_needed n kept [] remaining here needed = subst (λ (list : List (List ℕ)). AreNeeded n list []) here needed
remaining_needed n kept (p ∷ members) remaining (inl (spared, rest)) needed =
    remaining_needed n kept members remaining rest (λ j within zero. needed j within (fewer_together n (remove kept j) p members zero))
remaining_needed n kept (p ∷ members) remaining (inr (needs, rest)) needed =
    remaining_needed n (kept ++ p ∷ []) members remaining rest (needed_more n kept p members needed needs)

pub remaining_in_zero : (n : ℕ) (kept members remaining : List (List ℕ)) → LeavesOut n kept members remaining → AllMeetInZero n (kept ++ members) → AllMeetInZero n remaining
remaining_in_zero n kept [] remaining here zero = subst (AllMeetInZero n) (ap (λ (list : List (List ℕ)). list) (append-nil kept ∙ here)) zero
remaining_in_zero n kept (p ∷ members) remaining (inl (spared, rest)) zero = remaining_in_zero n kept members remaining rest spared
remaining_in_zero n kept (p ∷ members) remaining (inr (needs, rest)) zero =
    remaining_in_zero n (kept ++ p ∷ []) members remaining rest (subst (AllMeetInZero n) (sym (append_assoc kept (p ∷ []) members)) zero)

pub remaining_all : (P : List ℕ → Type 0) (n : ℕ) (kept members remaining : List (List ℕ)) → LeavesOut n kept members remaining → All P kept → All P members → All P remaining
remaining_all P n kept [] remaining here all more = subst (All P) here all
remaining_all P n kept (p ∷ members) remaining (inl (spared, rest)) all more = remaining_all P n kept members remaining rest all (All-tail P p members more)
remaining_all P n kept (p ∷ members) remaining (inr (needs, rest)) all more =
    remaining_all P n (kept ++ p ∷ []) members remaining rest (All-push P kept p all (All-head P p members more)) (All-tail P p members more)

pub remaining_few : (n : ℕ) (kept members remaining : List (List ℕ)) → LeavesOut n kept members remaining → length remaining ≤ length kept + length members
remaining_few n kept [] remaining here = omega (arith, ap length here)
remaining_few n kept (p ∷ members) remaining (inl (spared, rest)) = omega (arith, remaining_few n kept members remaining rest)
remaining_few n kept (p ∷ members) remaining (inr (needs, rest)) = omega (arith, remaining_few n (kept ++ p ∷ []) members remaining rest, length_push kept p)
