-- One, a meet and a list in order have one value.
use Rattle.std.proofs.Common.{◌≡◌, ℕ, zero, suc, ◌⊎◌, inl, inr, All, AllPairs, Contains, List, [], ◌∷◌, refl, sym, ap, ◌∙◌, subst, arith}
use Rattle.std.proofs.lemmas.List.Elements.{All-contains, Contains-append_right}
use Rattle.partition.specs.Partition.{IsOne, IsPartition}
use Rattle.partition.specs.MeetAndJoin.{IsMeet}
use Rattle.partition.specs.Laws.Labels.{same_labels}

pub ones_are_one : (n : ℕ) (one other : List ℕ) → IsPartition n one → IsOne one → IsPartition n other → IsOne other → one ≡ other
ones_are_one n one other lawful is other_lawful other_is =
    same_labels one other lawful.numbered other_lawful.numbered (lawful.length ∙ sym other_lawful.length) (λ s t. (
      (λ held. other_is s t (omega (arith, held.0, lawful.length, other_lawful.length)) (omega (arith, held.1, lawful.length, other_lawful.length))),
      (λ held. is s t (omega (arith, held.0, lawful.length, other_lawful.length)) (omega (arith, held.1, lawful.length, other_lawful.length))),
    ))

pub meets_are_one : (p q r other : List ℕ) → IsMeet p q r → IsMeet p q other → r ≡ other
meets_are_one p q r other one two =
    same_labels r other one.lawful.numbered two.lawful.numbered (one.lawful.length ∙ sym two.lawful.length) (λ s t. (
      (λ held. (two.together s t).1 ((one.together s t).0 held)),
      (λ held. (one.together s t).1 ((two.together s t).0 held)),
    ))

module _ {X : Type 0} (R : X → X → Type 0) (one_way : (x y : X) → R x y → R y x → ⊥) where
  first_or_later : (x y : X) (xs : List X) → Contains (x ∷ xs) y → (x ≡ y) ⊎ Contains xs y
  first_or_later x y xs (zero, within, is) = inl is
  first_or_later x y xs (suc k, within, is) = inr (k, omega arith, is)

  before_later : (x : X) (xs : List X) → AllPairs R (x ∷ xs) → All (R x) xs
  before_later x xs up k d within = up 0 (suc k) d (omega arith) (omega arith)

  later_up : (x : X) (xs : List X) → AllPairs R (x ∷ xs) → AllPairs R xs
  later_up x xs up i j d order within = up (suc i) (suc j) d (omega arith) (omega arith)

  -- what is behind the first of one list is behind that of the other
  later_among : (x y : X) (xs ys : List X) → AllPairs R (x ∷ xs) → x ≡ y → ((z : X) → Contains (x ∷ xs) z → Contains (y ∷ ys) z) → (z : X) → Contains xs z → Contains ys z
  later_among x y xs ys up same to z among =
      elim (first_or_later y z ys (to z (Contains-append_right (x ∷ []) xs z among))) [
        | inl first ↦
            let ahead : R x z = All-contains (R x) xs z (before_later x xs up) among in
            let itself : R x x = subst (R x) (sym (same ∙ first)) ahead in
            absurd (one_way x x itself itself)
        | inr later ↦ later
      ]

  -- two lists in order with the same elements are one
  pub ascending_once : (xs ys : List X) → AllPairs R xs → AllPairs R ys → ((z : X) → Contains xs z → Contains ys z) → ((z : X) → Contains ys z → Contains xs z) → xs ≡ ys
  ascending_once [] [] up other_up to from = refl
  ascending_once [] (y ∷ ys) up other_up to from = let among : Contains [] y = from y (0, omega arith, refl) in absurd (omega (arith, among.1))
  ascending_once (x ∷ xs) [] up other_up to from = let among : Contains [] x = to x (0, omega arith, refl) in absurd (omega (arith, among.1))
  ascending_once (x ∷ xs) (y ∷ ys) up other_up to from =
      let same : x ≡ y = elim (first_or_later y x ys (to x (0, omega arith, refl))) [
        | inl first ↦ sym first
        | inr later ↦ elim (first_or_later x y xs (from y (0, omega arith, refl))) [
          | inl first ↦ first
          | inr other_later ↦ absurd (one_way x y (All-contains (R x) xs y (before_later x xs up) other_later) (All-contains (R y) ys x (before_later y ys other_up) later))
        ]
      ] in
      ap (λ (z : X). z ∷ xs) same
      ∙ ap (λ (zs : List X). y ∷ zs) (ascending_once xs ys (later_up x xs up) (later_up y ys other_up) (later_among x y xs ys up same to) (later_among y x ys xs other_up (sym same) from))
