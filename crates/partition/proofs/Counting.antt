-- How many bits are set below a place.
use Rattle.std.proofs.Common.{◌≡◌, ◌≢◌, ℕ, zero, suc, ◌+◌, ◌<◌, ◌≤◌, List, refl, ap, inl, inr, arith}
use Rattle.std.proofs.lemmas.Bool.{cases_eq}
use Rattle.partition.specs.Bits.{bit_of}
use Rattle.partition.specs.Inner.Rows.{Has}
use Rattle.partition.proofs.Words.{bit_of-lt}

pub ones : List ℕ → ℕ → ℕ
ones words zero = 0
ones words (suc k) = ones words k + bit_of words k

pub ones-le : (words : List ℕ) (k : ℕ) → ones words k ≤ k
unfolding ones
ones-le words zero = omega arith
ones-le words (suc k) = omega (arith, ones-le words k, bit_of-lt words k)

ones_same : (old new : List ℕ) (k : ℕ) → ((u : ℕ) → u < k → bit_of new u ≡ bit_of old u) → ones new k ≡ ones old k
unfolding ones
ones_same old new zero same = refl
ones_same old new (suc k) same = omega (arith, ones_same old new k (λ u below. same u (omega arith)), same k (omega arith))

-- one bit more is one more
pub ones_more : (old new : List ℕ) (t k : ℕ) → t < k → bit_of old t ≡ 0 → bit_of new t ≡ 1 → ((u : ℕ) → u ≢ t → bit_of new u ≡ bit_of old u) → ones new k ≡ ones old k + 1
unfolding ones
ones_more old new t zero within off on others = absurd (omega arith)
ones_more old new t (suc k) within off on others =
    elim (cases_eq k t) [
      | inl at ↦ omega (arith, ones_same old new k (λ u below. others u (λ same. absurd (omega arith))), ap (bit_of old) at, ap (bit_of new) at, off, on)
      | inr other ↦ omega (arith, ones_more old new t k (omega arith) off on others, others k other)
    ]

-- as many bits or more, where none is cleared
pub ones_kept : (old new : List ℕ) (k : ℕ) → ((u : ℕ) → Has old u → Has new u) → ones old k ≤ ones new k
unfolding ones
ones_kept old new zero keeps = omega arith
ones_kept old new (suc k) keeps =
    elim (cases_eq (bit_of old k) 1) [
      | inl on ↦ omega (arith, ones_kept old new k keeps, on, keeps k on)
      | inr off ↦ omega (arith, ones_kept old new k keeps, off, bit_of-lt old k)
    ]

-- more bits, where one is set that was not
pub ones_grow : (old new : List ℕ) (t k : ℕ) → t < k → ((u : ℕ) → Has old u → Has new u) → bit_of old t ≡ 0 → Has new t → ones old k < ones new k
unfolding ones
ones_grow old new t zero within keeps off on = absurd (omega arith)
ones_grow old new t (suc k) within keeps off on =
    elim (cases_eq k t) [
      | inl at ↦ omega (arith, ones_kept old new k keeps, ap (bit_of old) at, ap (bit_of new) at, off, on)
      | inr other ↦ elim (cases_eq (bit_of old k) 1) [
        | inl set ↦ omega (arith, ones_grow old new t k (omega arith) keeps off on, set, keeps k set)
        | inr unset ↦ omega (arith, ones_grow old new t k (omega arith) keeps off on, unset, bit_of-lt old k)
      ]
    ]
