-- What the parts of the least code read: all other parts, so that each bit is a candidate of each latch.
use Rattle.std.proofs.Common.{◌≡◌, ◌∙◌, ◌==◌, not, ℕ, ◌<◌, Bool, true, cond, Contains, List, [], ◌∷◌, Some, filter, length, get_or, inl, inr, ap, sym, subst, arith}
use Rattle.std.proofs.lemmas.Bool.{cases_Bool, cases_eq, false≢true, ne_eqb}
use Rattle.std.proofs.lemmas.List.FromFn.{get_or-range_with_len, length-range_with_len}
use Rattle.std.proofs.lemmas.Nat.Bits.{same_from_bits_below}
use Rattle.std.proofs.lemmas.Option.{same_Some, slice_get-get_or}
use Rattle.std.specs.List.{range_with_len, slice_get}
use Rattle.partition.specs.Partition.{Together}
use Rattle.state_codes.specs.declared.split.Part.{Part}
use Rattle.state_codes.specs.Split.{others}
use Rattle.least_codes.specs.Laws.{AllBitsPermit, PartsTellAll}
use Rattle.least_codes.proofs.Ascending.{contains_cases, contains_head, contains_later}

pub all_bits_permit : AllBitsPermit
all_bits_permit F words bits value codes s t x in_s in_t agree size =
    let word : get_or words s 0 ≡ get_or words t 0 = same_from_bits_below bits (get_or words s 0) (get_or words t 0) (codes.short s in_s) (codes.short t in_t) agree in
    ap (λ (u : ℕ). value u x) (codes.distinct s t in_s in_t word)

-- what passes a test
passing : (test : ℕ → Bool) (xs : List ℕ) (x : ℕ) → Contains xs x → test x ≡ true → Contains (filter test xs) x
passing test [] x is passes = absurd (omega (arith, is.1))
passing test (y ∷ xs) x is passes =
    elim (cases_Bool (test y)) [
      | inl kept ↦ subst (λ b. Contains (cond b (y ∷ filter test xs) (filter test xs)) x) (sym kept)
          (elim (contains_cases y xs x is) [
            | inl same ↦ subst (λ z. Contains (y ∷ filter test xs) z) same (contains_head y (filter test xs))
            | inr later ↦ contains_later y (filter test xs) x (passing test xs x later passes)
          ])
      | inr gone ↦ subst (λ b. Contains (cond b (y ∷ filter test xs) (filter test xs)) x) (sym gone)
          (elim (contains_cases y xs x is) [
            | inl same ↦ absurd (false≢true (sym gone ∙ ap test same ∙ passes))
            | inr later ↦ passing test xs x later passes
          ])
    ]

-- the numbers of all parts but j
pub other_among : (count j k : ℕ) → k < count → (k ≡ j → ⊥) → Contains (others count j) k
other_among count j k within apart =
    passing (λ part. not (part == j)) (range_with_len 0 count) k (k, omega (arith, length-range_with_len 0 count), get_or-range_with_len 0 count k k within ∙ omega arith) (ap not (ne_eqb k j apart))

pub parts_tell_all : PartsTellAll
parts_tell_all parts j part s t split at held reads = split.in_zero s t (λ k d within. in_part k d within) where
  in_part : (k : ℕ) (d : Part) → k < length parts → Together (get_or parts k d).partition s t
  in_part k d within =
      let stands : slice_get parts k ≡ Some (get_or parts k d) = slice_get-get_or parts k d within in
      elim (cases_eq k j) [
        | inl same ↦ subst (λ (p : Part). Together p.partition s t) (same_Some part (get_or parts k d) (sym at ∙ ap (slice_get parts) (sym same) ∙ stands)) held
        | inr apart ↦
            let among : Contains part.reads k = subst (λ (list : List ℕ). Contains list k) (sym (split.reads j part at)) (other_among (length parts) j k within apart) in
            subst (λ (p : List ℕ). Together p s t) (split.own k d within) (reads k (get_or parts k d) among stands)
      ]
