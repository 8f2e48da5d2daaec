-- The partitions by the first and by the second part are closed, nontrivial, and meet in zero.
use Rattle.std.proofs.Common.{◌≡◌, ℕ, ◌+◌, ◌-◌, ◌*◌, ◌/◌, ◌%◌, ◌<◌, ◌≤◌, ◌⊎◌, Bool, List, length, map, get_or, take, inl, inr, sym, subst, ap, ◌∙◌, arith}
use Rattle.std.specs.List.{range_with_len}
use Rattle.std.proofs.Math.Nat.{mod-eq_of_lt, mul-le-mul_right}
use Rattle.std.proofs.lemmas.Bool.{cases_lt}
use Rattle.std.proofs.lemmas.List.FromFn.{get_or-map-range_with_len, length-map-range_with_len}
use Rattle.std.proofs.lemmas.Nat.{div-add-mod', div-mul-add, mod-mul-add, mod_below, mul-le}
use Rattle.cubes.specs.Symbol.{number_of}
use Rattle.kiss_file.specs.declared.file.KissFile.{KissFile}
use Rattle.kiss_file.specs.Machine.{next}
use Rattle.partition.specs.Partition.{IsNumbered, IsPartition, Together, blocks_of}
use Rattle.partition.specs.Laws.Labels.{label-lt-blocks_of-take}
use Rattle.pair_operators.specs.Pair.{Closed}
use Rattle.machine_gen.specs.WordMachine.{AreSizes, IsMachineOf, next_first, next_second}
use Rattle.machine_gen.specs.ParallelParts.{AreParallel, IsNontrivialClosed, by_first, by_second}
use Rattle.machine_gen.proofs.Accepting.{state_count}
use Rattle.machine_gen.proofs.Going.{at_state}
use Rattle.machine_gen.proofs.Numbered.{two_digits}

-- ---- a partition by a number of each state
module _ (n : ℕ) (label : ℕ → ℕ) where
  abbrev labels : List ℕ
  labels = map label (range_with_len 0 n)

  label_at : (s : ℕ) → s < n → get_or labels s 0 ≡ label s
  label_at s within = get_or-map-range_with_len label 0 n s s 0 within (omega arith)

  label_count : length labels ≡ n
  label_count = length-map-range_with_len label 0 n

  -- states are together where their labels are equal
  together : (s t : ℕ) → s < n → t < n → label s ≡ label t → Together labels s t
  together s t low also same =
      (subst (λ m. s < m) (sym label_count) low, subst (λ m. t < m) (sym label_count) also, label_at s low ∙ same ∙ sym (label_at t also))

  together_low : (s t : ℕ) → Together labels s t → (s < n) × (t < n) × (label s ≡ label t)
  together_low s t held =
      let low : s < n = subst (λ m. s < m) label_count held.0 in
      let also : t < n = subst (λ m. t < m) label_count held.1 in
      (low, also, sym (label_at s low) ∙ held.2 ∙ label_at t also)

  -- blocks are numbered by first appearance where a state before one with a label has the label before it
  numbered : ((s : ℕ) → s < n → (label s ≡ 0) ⊎ ((t : ℕ) × (t < s) × (label t + 1 ≡ label s))) → IsNumbered labels
  numbered before s inside =
      let low : s < n = subst (λ m. s < m) label_count inside in
      elim (before s low) [
        | inl none ↦ omega (arith, label_at s low)
        | inr one ↦
            let earlier : one.0 < s = one.1 in
            let lesser : get_or labels one.0 0 < blocks_of (take s labels) = label-lt-blocks_of-take labels one.0 s earlier (omega arith) in
            let here : get_or labels one.0 0 ≡ label one.0 = label_at one.0 (omega arith) in
            let follows : label one.0 + 1 ≡ label s = one.2 in
            omega (arith, label_at s low)
      ]

  lawful : 0 < n → n ≤ 256 → IsNumbered labels → IsPartition n labels
  lawful some few order = record { count = (some, few); length = label_count; numbered = order }

-- ---- the two numbers of a state
module _ (b : ℕ) (some_b : 0 < b) where
  div_small : (x : ℕ) → x < b → x / b ≡ 0
  div_small x low = let same : 0 * b + x ≡ x = omega arith in ap (λ n. n / b) (sym same) ∙ div-mul-add 0 b x low

  div_self : b / b ≡ 1
  div_self = let same : 1 * b + 0 ≡ b = omega arith in ap (λ n. n / b) (sym same) ∙ div-mul-add 1 b 0 some_b

  mod_self : b % b ≡ 0
  mod_self = let same : 1 * b + 0 ≡ b = omega arith in ap (λ n. n % b) (sym same) ∙ mod-mul-add 1 b 0 some_b

  first_before : (s : ℕ) → (s / b ≡ 0) ⊎ ((t : ℕ) × (t < s) × (t / b + 1 ≡ s / b))
  first_before s =
      elim (cases_lt 0 (s / b)) [
        | inr none ↦ inl (omega arith)
        | inl some ↦
            let q : ℕ = s / b - 1 in
            let next : q + 1 ≡ s / b = omega arith in
            let start : (q + 1) * b ≡ s / b * b = ap (λ n. n * b) next in
            let same : q * b + 0 ≡ q * b = omega arith in
            let label : q * b / b ≡ q = ap (λ n. n / b) (sym same) ∙ div-mul-add q b 0 some_b in
            inr (q * b, omega (arith, start, div-add-mod' s b), ap (λ n. n + 1) label ∙ next)
      ]

  second_before : (s : ℕ) → (s % b ≡ 0) ⊎ ((t : ℕ) × (t < s) × (t % b + 1 ≡ s % b))
  second_before s =
      elim (cases_lt 0 (s % b)) [
        | inr none ↦ inl (omega arith)
        | inl some ↦
            let r : ℕ = s % b - 1 in
            let next : r + 1 ≡ s % b = omega arith in
            let low : r < b = omega (arith, mod_below s b some_b) in
            inr (s / b * b + r, omega (arith, div-add-mod' s b), ap (λ n. n + 1) (mod-mul-add (s / b) b r low) ∙ next)
      ]

module _ (word : ℕ → ℕ) (a b k : ℕ) (F : KissFile) (sizes : AreSizes a b k) (is : IsMachineOf word a b k F) where
  some_b : 0 < b
  some_b = omega (arith, sizes.b_low)

  states : length F.states ≡ a * b
  states = state_count word a b k F sizes is

  -- ---- where states go
  next_is : (s : ℕ) (symbol : List Bool) → s < a * b → length symbol ≡ F.inputs
      → next F s symbol ≡ next_first word a k (s / b) (number_of symbol) * b + next_second word b k (s % b) (number_of symbol)
  next_is s symbol low long = (at_state word a b k F sizes is s symbol low (long ∙ is.inputs)).0

  next_low : (s : ℕ) (symbol : List Bool) → s < a * b → length symbol ≡ F.inputs → next F s symbol < a * b
  next_low s symbol low long =
      subst (λ n. n < a * b) (sym (next_is s symbol low long)) (two_digits _ _ a b (mod_below _ a (omega (arith, sizes.a_low))) (mod_below _ b some_b))

  first_of_next : (s : ℕ) (symbol : List Bool) → s < a * b → length symbol ≡ F.inputs → next F s symbol / b ≡ next_first word a k (s / b) (number_of symbol)
  first_of_next s symbol low long =
      ap (λ n. n / b) (next_is s symbol low long) ∙ div-mul-add _ b _ (mod_below _ b some_b)

  second_of_next : (s : ℕ) (symbol : List Bool) → s < a * b → length symbol ≡ F.inputs → next F s symbol % b ≡ next_second word b k (s % b) (number_of symbol)
  second_of_next s symbol low long =
      ap (λ n. n % b) (next_is s symbol low long) ∙ mod-mul-add _ b _ (mod_below _ b some_b)

  -- ---- the two partitions
  first_closed : Closed F (by_first a b)
  first_closed s t symbol held long =
      let low = together_low (a * b) (λ s. s / b) s t held in
      together (a * b) (λ s. s / b) (next F s symbol) (next F t symbol) (next_low s symbol low.0 long) (next_low t symbol low.1 long)
      (first_of_next s symbol low.0 long ∙ ap (λ i. next_first word a k i (number_of symbol)) low.2 ∙ sym (first_of_next t symbol low.1 long))

  second_closed : Closed F (by_second a b)
  second_closed s t symbol held long =
      let low = together_low (a * b) (λ s. s % b) s t held in
      together (a * b) (λ s. s % b) (next F s symbol) (next F t symbol) (next_low s symbol low.0 long) (next_low t symbol low.1 long)
      (second_of_next s symbol low.0 long ∙ ap (λ j. next_second word b k j (number_of symbol)) low.2 ∙ sym (second_of_next t symbol low.1 long))

  first_numbered : IsNumbered (by_first a b)
  first_numbered = numbered (a * b) (λ s. s / b) (λ s low. first_before b some_b s)

  second_numbered : IsNumbered (by_second a b)
  second_numbered = numbered (a * b) (λ s. s % b) (λ s low. second_before b some_b s)

  some_states : 4 ≤ a * b
  some_states = mul-le 2 2 a b sizes.a_low sizes.b_low

  first_lawful : IsPartition (length F.states) (by_first a b)
  first_lawful = subst (λ n. IsPartition n (by_first a b)) (sym states) (lawful (a * b) (λ s. s / b) (omega (arith, some_states)) sizes.states first_numbered)

  second_lawful : IsPartition (length F.states) (by_second a b)
  second_lawful = subst (λ n. IsPartition n (by_second a b)) (sym states) (lawful (a * b) (λ s. s % b) (omega (arith, some_states)) sizes.states second_numbered)

  row_of_b : b < a * b
  row_of_b = let two : 2 * b ≤ a * b = mul-le-mul_right b sizes.a_low in omega arith

  zero_low : 0 < a * b
  zero_low = omega (arith, some_states)

  one_low : 1 < a * b
  one_low = omega (arith, some_states)

  first_div : 0 / b ≡ 0
  first_div = div_small b some_b 0 some_b

  -- states 0 and 1 have one first part, states 0 and b one second part, and no more
  first : IsNontrivialClosed F (by_first a b)
  first = record {
    lawful = first_lawful;
    closed = first_closed;
    not_zero = λ zero.
        let same : 0 / b ≡ 1 / b = first_div ∙ sym (div_small b some_b 1 (omega (arith, sizes.b_low))) in
        let equal : 0 ≡ 1 = zero 0 1 (together (a * b) (λ s. s / b) 0 1 zero_low one_low same) in
        omega arith;
    not_one = λ one.
        let count = label_count (a * b) (λ s. s / b) in
        let held = one 0 b (subst (λ n. 0 < n) (sym count) zero_low) (subst (λ n. b < n) (sym count) row_of_b) in
        let equal : 0 ≡ 1 = sym first_div ∙ (together_low (a * b) (λ s. s / b) 0 b held).2 ∙ div_self b some_b in
        omega arith;
  }

  second : IsNontrivialClosed F (by_second a b)
  second = record {
    lawful = second_lawful;
    closed = second_closed;
    not_zero = λ zero.
        let same : 0 % b ≡ b % b = mod-eq_of_lt some_b ∙ sym (mod_self b some_b) in
        let equal : 0 ≡ b = zero 0 b (together (a * b) (λ s. s % b) 0 b zero_low row_of_b same) in
        omega arith;
    not_one = λ one.
        let count = label_count (a * b) (λ s. s % b) in
        let held = one 0 1 (subst (λ n. 0 < n) (sym count) zero_low) (subst (λ n. 1 < n) (sym count) one_low) in
        let small : 1 < b = omega (arith, sizes.b_low) in
        let equal : 0 ≡ 1 = sym (mod-eq_of_lt some_b) ∙ (together_low (a * b) (λ s. s % b) 0 1 held).2 ∙ mod-eq_of_lt small in
        omega arith;
  }

  pub sides : AreParallel F (by_first a b) (by_second a b)
  sides = record {
    first = first;
    second = second;
    in_zero = λ s t one two.
        let i = together_low (a * b) (λ s. s / b) s t one in
        let j = together_low (a * b) (λ s. s % b) s t two in
        sym (div-add-mod' s b) ∙ ap (λ n. n * b + s % b) i.2 ∙ ap (λ n. t / b * b + n) j.2 ∙ div-add-mod' t b;
  }
