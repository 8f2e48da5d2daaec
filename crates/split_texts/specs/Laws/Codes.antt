-- Laws of codes: the codes of one list of parts have one length, and parts whose codes are distinct distinguish all
-- states.
use Rattle.std.proofs.Common.{◌≡◌, ℕ, ◌<◌, ◌≤◌, All, List, get_or, length, refl, sym, ap, ◌∙◌, inl, inr, arith}
use Rattle.std.proofs.lemmas.Bool.{cases_lt}
use Rattle.std.proofs.lemmas.List.{get_or_past, length-map}
use Rattle.std.proofs.lemmas.Nat.Bits.{same_from_bits}
use Rattle.std.specs.Int.{bit_at}
use Rattle.list_facts.specs.Laws.Everywhere.{all_at}
use Rattle.list_facts.specs.Laws.Places.{item_at}
use Rattle.partition.specs.Partition.{Together}
use Rattle.state_codes.specs.declared.Codes.{Codes}
use Rattle.state_codes.specs.declared.split.Part.{Part}
use Rattle.state_codes.specs.Agreement.{AreDistinct}
use Rattle.state_codes.specs.Code.{IsCode, IsLength, Place, bit_of, places_of, state_code}
use Rattle.state_codes.specs.Fault.{AreApart}
use Rattle.state_codes.specs.Laws.Codes.{owner-lt, part_bits_tell}
use Rattle.state_codes.specs.Laws.Places.{AreInside-once}
use Rattle.state_codes.specs.Split.{IsPart, TogetherInAll}

-- ---- the length
pub length_once : (parts : List Part) (one other : ℕ) → IsLength parts one → IsLength parts other → one ≡ other
length_once parts one other first second =
    first.size ∙ ap (λ (inners : List (List ℕ)). length (places_of 0 parts inners)) (AreInside-once parts first.inners second.inners first.inside second.inside) ∙ sym second.size

-- codes have the length that their parts give
pub length_of_codes : (n : ℕ) (parts : List Part) (codes : Codes) → IsCode n parts codes → IsLength parts codes.bits
length_of_codes n parts codes code = record { inners = code.inners; inside = code.inside; size = code.written.size }

-- ---- distinct codes
module _ (n : ℕ) (parts : List Part) (codes : Codes) (lawful : All (IsPart n) parts) (code : IsCode n parts codes) (s t : ℕ) (in_s : s < n) (in_t : t < n) (together : TogetherInAll parts s t) where
  -- if two states are together in all parts, their codes agree at each bit
  bit_within : (i : ℕ) → i < codes.bits → bit_at (get_or codes.words s 0) i ≡ bit_at (get_or codes.words t 0) i
  bit_within i below =
      let owner : ℕ = get_or codes.owner i 0 in
      let found = item_at parts owner (owner-lt n parts codes code i below) in
      (part_bits_tell n parts codes lawful code owner found.0 found.1 s t in_s in_t).1 (all_at (λ (part : Part). Together part.partition s t) parts owner found.0 together found.1) i below refl

  -- and codes have no bit that is 1 beyond their length
  bit_past : (u : ℕ) → u < n → (i : ℕ) → codes.bits ≤ i → bit_at (get_or codes.words u 0) i ≡ 0
  bit_past u in_u i past =
      let places : List Place = places_of 0 parts code.inners in
      let size : length (state_code places u) ≡ length places = length-map places (bit_of u) in
      code.written.spelled u in_u i ∙ get_or_past (state_code places u) i 0 (omega (arith, size, code.written.size, past))

  same_bit : (i : ℕ) → bit_at (get_or codes.words s 0) i ≡ bit_at (get_or codes.words t 0) i
  same_bit i =
      elim (cases_lt i codes.bits) [
        | inl below ↦ bit_within i below
        | inr past ↦ bit_past s in_s i (omega (arith, past)) ∙ sym (bit_past t in_t i (omega (arith, past)))
      ]

  same_words : get_or codes.words s 0 ≡ get_or codes.words t 0
  same_words = same_from_bits (get_or codes.words s 0) (get_or codes.words t 0) same_bit

pub apart_of_codes : (n : ℕ) (parts : List Part) (codes : Codes) → All (IsPart n) parts → IsCode n parts codes → AreDistinct n codes.words → AreApart n parts
apart_of_codes n parts codes lawful code distinct s t before in_t together =
    let in_s : s < n = omega (arith, before, in_t) in
    let same : s ≡ t = distinct s t in_s in_t (same_words n parts codes lawful code s t in_s in_t together) in
    omega (arith, same, before)
