-- A machine has one least code, one split that gives it, and each gate one list of least reads.
use Rattle.std.proofs.Common.{◌≡◌, ◌↔◌, ◌∙◌, ℕ, ◌<◌, ◌≤◌, Bool, Contains, List, [], ◌∷◌, Some, length, get_or, inl, inr, ap, sym, subst, arith}
use Rattle.std.proofs.lemmas.Bool.{cases_eq, cases_order}
use Rattle.std.proofs.lemmas.Option.{slice_get-get_or}
use Rattle.std.proofs.lemmas.List.{ext_get_or}
use Rattle.std.proofs.lemmas.Nat.Bits.{bit_at-lt, same_from_bits}
use Rattle.std.specs.Int.{bit_at}
use Rattle.std.specs.List.{slice_get}
use Rattle.kiss_file.specs.declared.file.KissFile.{KissFile}
use Rattle.partition.specs.Laws.Labels.{same_labels}
use Rattle.state_codes.specs.Agreement.{IsBitPartition}
use Rattle.state_codes.specs.declared.split.Part.{Part}
use Rattle.state_codes.specs.declared.Codes.{Codes}
use Rattle.state_codes.specs.Laws.Codes.{codes_are_one}
use Rattle.state_codes.specs.Code.{need}
use Rattle.state_codes.specs.Split.{others, own_part}
use Rattle.dependence.specs.SufficientBits.{InWord}
use Rattle.least_codes.specs.Cost.{IsCost}
use Rattle.least_codes.specs.Laws.{GivenCodesAreLeast, LeastCodeIsOne, LeastReadsAreOne, LeastSplitIsOne}
use Rattle.least_codes.specs.LeastCode.{IsLeastCode, TextsBefore}
use Rattle.least_codes.specs.LeastReads.{AreLeastReads, ListBefore}

-- of two lists only one can be before the other
lists_apart : (one other : List ℕ) → ListBefore one other → ListBefore other one → ⊥
lists_apart [] other first second = first
lists_apart (a ∷ one) [] first second = first
lists_apart (a ∷ one) (b ∷ other) first second =
    elim first [
      | inl less ↦ elim second [ inl more ↦ omega (arith, less, more) | inr same ↦ omega (arith, less, same.0) ]
      | inr even ↦ elim second [ inl more ↦ omega (arith, even.0, more) | inr same ↦ lists_apart one other even.1 same.1 ]
    ]

-- there is one list of least reads
pub least_list_is_one : (F : KissFile) (words : List ℕ) (Candidate : ℕ → Type 0) (value : ℕ → List Bool → Bool) (one other : List ℕ) → AreLeastReads F words Candidate value one → AreLeastReads F words Candidate value other → one ≡ other
least_list_is_one F words Candidate value one other first second =
    let no_longer : length one ≤ length other = first.fewest.fewest other second.fewest.enough in
    let no_shorter : length other ≤ length one = second.fewest.fewest one first.fewest.enough in
    elim (first.first other second.fewest.enough (omega (arith, no_longer, no_shorter))) [
      | inl same ↦ sym same
      | inr before ↦ elim (second.first one first.fewest.enough (omega (arith, no_longer, no_shorter))) [
        | inl same ↦ same
        | inr after ↦ absurd (lists_apart one other before after)
      ]
    ]

-- a word is told by its bits
word_once : (one other : ℕ) → ((c : ℕ) → InWord one c ↔ InWord other c) → one ≡ other
word_once one other same =
    same_from_bits one other (λ c. elim (cases_eq (bit_at one c) 1) [
      | inl set ↦ set ∙ sym ((same c).0 set)
      | inr clear ↦ elim (cases_eq (bit_at other c) 1) [
        | inl set ↦ (same c).1 set ∙ sym set
        | inr free ↦ omega (arith, clear, free, bit_at-lt one c, bit_at-lt other c)
      ]
    ])

pub least_reads_are_one : LeastReadsAreOne
least_reads_are_one F words candidates value one other first second =
    let same : first.reads ≡ second.reads = least_list_is_one F words (InWord candidates) value first.reads second.reads first.least second.least in
    word_once one other (λ c. (
      (λ is. (second.bits c).1 (subst (λ (list : List ℕ). Contains list c) same ((first.bits c).0 is))),
      (λ is. (first.bits c).1 (subst (λ (list : List ℕ). Contains list c) (sym same) ((second.bits c).0 is))),
    ))

-- the same of codes by their texts
pub texts_apart : (one other : List ℕ) → TextsBefore one other → TextsBefore other one → ⊥
texts_apart one other first second =
    elim (cases_order first.state second.state) [
      | inl at ↦ at_state at
      | inr apart ↦ elim apart [
        | inl less ↦ early one other first (second.states_before first.state less)
        | inr more ↦ early other one second (first.states_before second.state more)
      ]
    ]
  where
    early : (words more : List ℕ) → (order : TextsBefore words more) → get_or more order.state 0 ≡ get_or words order.state 0 → ⊥
    early words more order same = omega (arith, order.zero, order.one, ap (λ (word : ℕ). bit_at word order.bit) same)

    bit_here : (words : List ℕ) → first.state ≡ second.state → (i : ℕ) → bit_at (get_or words first.state 0) i ≡ bit_at (get_or words second.state 0) i
    bit_here words at i = ap (λ (s : ℕ). bit_at (get_or words s 0) i) at

    at_state : first.state ≡ second.state → ⊥
    at_state at =
        elim (cases_order first.bit second.bit) [
          | inl level ↦ omega (arith, first.zero, second.one, bit_here one at first.bit, ap (λ (i : ℕ). bit_at (get_or one second.state 0) i) level)
          | inr two ↦ elim two [
            | inl less ↦ omega (arith, first.zero, first.one, second.bits_before first.bit less, bit_here one at first.bit, bit_here other at first.bit)
            | inr more ↦ omega (arith, second.zero, second.one, first.bits_before second.bit more, bit_here one at second.bit, bit_here other at second.bit)
          ]
        ]

pub least_code_is_one : LeastCodeIsOne
least_code_is_one F one other first second =
    let no_more : first.cost ≤ second.cost = first.least other second.cost second.codes second.costs in
    let no_less : second.cost ≤ first.cost = second.least one first.cost first.codes first.costs in
    let same_cost : first.cost ≡ second.cost = omega (arith, no_more, no_less) in
    elim (first.first other second.codes (subst (IsCost F other (need (length F.states))) (sym same_cost) second.costs)) [
      | inl same ↦ sym same
      | inr before ↦ elim (second.first one first.codes (subst (IsCost F one (need (length F.states))) same_cost first.costs)) [
        | inl same ↦ same
        | inr after ↦ absurd (texts_apart one other before after)
      ]
    ]

-- the partition of a bit is one
bit_partition_once : (n : ℕ) (words : List ℕ) (i : ℕ) (p q : List ℕ) → IsBitPartition n words i p → IsBitPartition n words i q → p ≡ q
bit_partition_once n words i p q one two =
    same_labels p q one.lawful.numbered two.lawful.numbered (one.lawful.length ∙ sym two.lawful.length)
    (λ s t. (
      (λ held. (two.together s t (omega (arith, held.0, one.lawful.length)) (omega (arith, held.1, one.lawful.length))).1 ((one.together s t (omega (arith, held.0, one.lawful.length)) (omega (arith, held.1, one.lawful.length))).0 held)),
      (λ held. (one.together s t (omega (arith, held.0, two.lawful.length)) (omega (arith, held.1, two.lawful.length))).1 ((two.together s t (omega (arith, held.0, two.lawful.length)) (omega (arith, held.1, two.lawful.length))).0 held)),
    ))

same_part : (part other : Part) → part.partition ≡ other.partition → part.carrier ≡ other.carrier → part.reads ≡ other.reads → part ≡ other
same_part part other partitions carriers reads =
    ap (λ (p : List ℕ). record { partition = p; carrier = part.carrier; reads = part.reads }) partitions
    ∙ ap (λ (p : List ℕ). record { partition = other.partition; carrier = p; reads = part.reads }) carriers
    ∙ ap (λ (numbers : List ℕ). record { partition = other.partition; carrier = other.carrier; reads = numbers }) reads

pub least_split_is_one : LeastSplitIsOne
least_split_is_one F one other split split_other give give_other =
    ext_get_or nowhere one other size (λ j within. at j within)
  where
    nowhere : Part
    nowhere = own_part [] []

    words : give.codes.words ≡ give_other.codes.words
    words = least_code_is_one F give.codes.words give_other.codes.words give.least give_other.least

    size : length one ≡ length other
    size = give.count ∙ give.size ∙ sym give_other.size ∙ sym give_other.count

    at : (j : ℕ) → j < length one → get_or one j nowhere ≡ get_or other j nowhere
    at j within =
        let in_other : j < length other = omega (arith, within, size) in
        let part : Part = get_or one j nowhere in
        let more : Part = get_or other j nowhere in
        let stands : slice_get one j ≡ Some part = slice_get-get_or one j nowhere within in
        let stands_other : slice_get other j ≡ Some more = slice_get-get_or other j nowhere in_other in
        let partitions : part.partition ≡ more.partition = bit_partition_once (length F.states) give_other.codes.words j part.partition more.partition
        (subst (λ (list : List ℕ). IsBitPartition (length F.states) list j part.partition) words (give.bits j part stands))
        (give_other.bits j more stands_other) in
        same_part part more partitions
        (split.own j nowhere within ∙ partitions ∙ sym (split_other.own j nowhere in_other))
        (split.reads j part stands ∙ ap (λ (count : ℕ). others count j) size ∙ sym (split_other.reads j more stands_other))

pub given_codes_are_least : GivenCodesAreLeast
given_codes_are_least F parts codes give code = subst (λ (one : Codes). IsLeastCode F one.words) (codes_are_one (length F.states) parts give.codes codes give.given code) give.least
