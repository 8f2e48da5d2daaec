-- Information flows through the parts of each kind of decomposition as the parts say.
use Rattle.std.proofs.Common.{◌≡◌, ℕ, zero, suc, ◌+◌, ◌<◌, ◌≤◌, ◌==◌, not, inl, inr, All, Bool, Contains, List, [], ◌∷◌, Some, length, get_or, refl, sym, ap, ◌∙◌, subst, arith}
use Rattle.std.specs.List.{range_with_len, slice_get}
use Rattle.std.proofs.lemmas.Bool.{cases_eq, cases_order, ne_eqb}
use Rattle.std.proofs.lemmas.List.Elements.{All-cons, All-nil}
use Rattle.std.proofs.lemmas.List.FromFn.{get_or-range_with_len, length-range_with_len}
use Rattle.std.proofs.lemmas.Option.{none-some, same_Some, slice_get-get_or, slice_get_within}
use Rattle.list_facts.specs.Laws.Everywhere.{all_at}
use Rattle.list_facts.specs.Laws.Members.{Contains-filter}
use Rattle.closed_lattice.specs.ClosedPartitions.{IsClosedPartition}
use Rattle.decomposition.specs.Flow.{Flows, TogetherInReads}
use Rattle.feedback_split.specs.Carrier.{Suffices}
use Rattle.feedback_split.specs.Kind.{IsFeedback}
use Rattle.kiss_file.specs.declared.file.KissFile.{KissFile}
use Rattle.kiss_file.specs.Machine.{next}
use Rattle.least_codes.proofs.Reading.{parts_tell_all}
use Rattle.least_codes.specs.Kind.{IsLeastSplit}
use Rattle.machine_table.specs.NextStates.{NeverLeaves}
use Rattle.parallel_split.specs.Kind.{IsParallel}
use Rattle.partition.specs.Partition.{IsPartition, Together}
use Rattle.partition.specs.Laws.Chains.{together_itself}
use Rattle.serial_split.specs.Kind.{Descends, IsCascade, IsSerial}
use Rattle.state_codes.specs.declared.split.Part.{Part}
use Rattle.state_codes.specs.Fault.{AreApart}
use Rattle.state_codes.specs.Kinds.{IsOwnCarrier, PartsMeetInZero}
use Rattle.state_codes.specs.Split.{IsPart, TogetherInAll, given_parts, others}
use Rattle.state_codes.specs.Laws.Splits.{given_parts-length}

-- equal states have equal next states
same_state : (W : KissFile) (p : List ℕ) (s t : ℕ) (x : List Bool) → NeverLeaves W → IsPartition (length W.states) p → s < length W.states → length x ≡ W.inputs → s ≡ t → Together p (next W s x) (next W t x)
same_state W p s t x stays lawful in_s symbol same =
    subst (λ (u : ℕ). Together p (next W s x) (next W u x)) same (together_itself p (next W s x) (omega (arith, stays s x in_s symbol, lawful.length)))

-- ---- given parts
-- the part of a given partition reads all others, and its partition is its own carrier
given_part : (count j k : ℕ) (partitions : List (List ℕ)) (part : Part) → slice_get (given_parts count j partitions) k ≡ Some part → (part.reads ≡ others count (j + k)) × IsOwnCarrier part
given_part count j k [] part at = absurd (none-some part at)
given_part count j zero (p ∷ partitions) part at =
    let here : j ≡ j + 0 = omega arith in
    let same : record { partition = p; carrier = p; reads = others count j } ≡ part = same_Some (record { partition = p; carrier = p; reads = others count j }) part at in
    subst (λ (other : Part). (other.reads ≡ others count (j + 0)) × IsOwnCarrier other) same (ap (others count) here, refl)
given_part count j (suc k) (p ∷ partitions) part at =
    let place : suc j + k ≡ j + suc k = omega arith in
    let later = given_part count (suc j) k partitions part at in
    (later.0 ∙ ap (others count) place, later.1)

-- the numbers of all parts but j
other_among : (count j k : ℕ) → k < count → (k ≡ j → ⊥) → Contains (others count j) k
other_among count j k within apart =
    Contains-filter (λ (part : ℕ). not (part == j)) (range_with_len 0 count) k (k, omega (arith, length-range_with_len 0 count), get_or-range_with_len 0 count k k within ∙ omega arith) (ap not (ne_eqb k j apart))

-- states that a given part and all parts that it reads hold together are together in all parts
given_together : (partitions : List (List ℕ)) (j : ℕ) (part : Part) (s t : ℕ) → slice_get (given_parts (length partitions) 0 partitions) j ≡ Some part → Together part.partition s t
    → TogetherInReads (given_parts (length partitions) 0 partitions) part s t → TogetherInAll (given_parts (length partitions) 0 partitions) s t
given_together partitions j part s t at held reads k d within =
    in_part (get_or parts k d) (slice_get-get_or parts k d within)
  where
    parts : List Part
    parts = given_parts (length partitions) 0 partitions

    in_part : (other : Part) → slice_get (given_parts (length partitions) 0 partitions) k ≡ Some other → Together other.partition s t
    in_part other here =
        elim (cases_eq k j) [
          | inl same ↦ subst (λ (p : Part). Together p.partition s t) (same_Some part other (sym at ∙ ap (slice_get (given_parts (length partitions) 0 partitions)) (sym same) ∙ here)) held
          | inr apart ↦
              let place : 0 + j ≡ j = omega arith in
              let may_read : part.reads ≡ others (length partitions) j = (given_part (length partitions) 0 j partitions part at).0 ∙ ap (others (length partitions)) place in
              let below : k < length partitions = omega (arith, slice_get_within (given_parts (length partitions) 0 partitions) k other here, given_parts-length (length partitions) 0 partitions) in
              let among : Contains part.reads k = subst (λ (list : List ℕ). Contains list k) (sym may_read) (other_among (length partitions) j k below apart) in
              subst (λ (p : List ℕ). Together p s t) (given_part (length partitions) 0 k partitions other here).1 (reads k other among here)
        ]

-- states that all parts hold together are equal, if the parts distinguish all states
one_state : (n : ℕ) (parts : List Part) (s t : ℕ) → AreApart n parts → s < n → t < n → TogetherInAll parts s t → s ≡ t
one_state n parts s t apart in_s in_t together =
    elim (cases_order s t) [
      | inl same ↦ same
      | inr (inl before) ↦ absurd (apart s t before in_t together)
      | inr (inr after) ↦ absurd (apart t s after in_s (λ k d within. let held = together k d within in (held.1, held.0, sym held.2)))
    ]

-- so it is enough that given parts distinguish all states
pub given_flows : (W : KissFile) (partitions : List (List ℕ)) → NeverLeaves W → All (IsPart (length W.states)) (given_parts (length partitions) 0 partitions) → AreApart (length W.states) (given_parts (length partitions) 0 partitions)
    → Flows W (given_parts (length partitions) 0 partitions)
given_flows W partitions stays lawful apart j part s t x at in_s in_t symbol held reads =
    let parts : List Part = given_parts (length partitions) 0 partitions in
    same_state W part.partition s t x stays (all_at (IsPart (length W.states)) parts j part lawful at).partition in_s symbol
    (one_state (length W.states) parts s t apart in_s in_t (given_together partitions j part s t at held reads))

-- ---- parts that are found
-- a closed partition needs no other part
pub parallel_flows : (W : KissFile) (parts : List Part) → IsParallel W parts → Flows W parts
parallel_flows W parts parallel j part s t x at in_s in_t symbol held reads =
    (all_at (λ (p : Part). IsClosedPartition W p.partition) parts j part parallel.closed at).1 s t x held symbol

-- the first part is closed, and the two parts together distinguish all states
two_flow : (W : KissFile) (first second : Part) → NeverLeaves W → IsPartition (length W.states) second.partition → IsOwnCarrier first → IsClosedPartition W first.partition → PartsMeetInZero (first ∷ second ∷ []) → second.reads ≡ 0 ∷ [] → Flows W (first ∷ second ∷ [])
two_flow W first second stays lawful own closed in_zero second_reads zero part s t x at in_s in_t symbol held reads =
    let same : first ≡ part = same_Some first part at in
    subst (λ (p : Part). Together p.partition s t → Together p.partition (next W s x) (next W t x)) same (λ together. closed.1 s t x together symbol) held
two_flow W first second stays lawful own closed in_zero second_reads (suc zero) part s t x at in_s in_t symbol held reads =
    let same : second ≡ part = same_Some second part at in
    let among : Contains part.reads 0 = subst (λ (list : List ℕ). Contains list 0) (sym second_reads ∙ ap (λ (p : Part). p.reads) same) (0, omega arith, refl) in
    let in_first : Together first.partition s t = subst (λ (p : List ℕ). Together p s t) own (reads 0 first among refl) in
    let in_second : Together second.partition s t = subst (λ (p : Part). Together p.partition s t) (sym same) held in
    let P : Part → Type 0 = λ p. Together p.partition s t in
    let one : s ≡ t = in_zero s t (All-cons P first (second ∷ []) in_first (All-cons P second [] in_second (All-nil P))) in
    subst (λ (p : Part). Together p.partition (next W s x) (next W t x)) same (same_state W second.partition s t x stays lawful in_s symbol one)
two_flow W first second stays lawful own closed in_zero second_reads (suc (suc j)) part s t x at in_s in_t symbol held reads = absurd (none-some part at)

pub serial_flows : (W : KissFile) (parts : List Part) → NeverLeaves W → All (IsPart (length W.states)) parts → IsSerial W parts → Flows W parts
serial_flows W parts stays lawful serial =
    let two : parts ≡ serial.first ∷ serial.second ∷ [] = serial.two in
    let in_second : IsPart (length W.states) serial.second = all_at (IsPart (length W.states)) parts 1 serial.second lawful (ap (λ (list : List Part). slice_get list 1) two) in
    let own : IsOwnCarrier serial.first = all_at IsOwnCarrier parts 0 serial.first serial.own (ap (λ (list : List Part). slice_get list 0) two) in
    subst (Flows W) (sym two) (two_flow W serial.first serial.second stays in_second.partition own serial.closed (subst PartsMeetInZero two serial.in_zero) serial.second_reads)

-- The meet of a part with the parts before it is closed, and lies below the part.
down_flow : (W : KissFile) (c d : List ℕ) (parts : List Part) → Descends W c parts d → (j : ℕ) (part : Part) (s t : ℕ) (x : List Bool) → slice_get parts j ≡ Some part → length x ≡ W.inputs
    → Together c s t → ((l : ℕ) (other : Part) → l ≤ j → slice_get parts l ≡ Some other → Together other.partition s t) → Together part.partition (next W s x) (next W t x)
down_flow W c d [] down j part s t x at symbol top each = absurd (none-some part at)
down_flow W c d (first ∷ parts) (meet, is, closed, below, rest) zero part s t x at symbol top each =
    let held : Together meet s t = (is.together s t).1 (top, each 0 first (omega arith) refl) in
    let after : Together meet (next W s x) (next W t x) = closed.1 s t x held symbol in
    subst (λ (p : Part). Together p.partition (next W s x) (next W t x)) (same_Some first part at) ((is.together (next W s x) (next W t x)).0 after).1
down_flow W c d (first ∷ parts) (meet, is, closed, below, rest) (suc j) part s t x at symbol top each =
    let held : Together meet s t = (is.together s t).1 (top, each 0 first (omega arith) refl) in
    down_flow W meet d parts rest j part s t x at symbol held (λ l other before here. each (suc l) other (omega arith) here)

pub cascade_flows : (W : KissFile) (parts : List Part) → IsCascade W parts → Flows W parts
cascade_flows W parts cascade j part s t x at in_s in_t symbol held reads =
    down_flow W cascade.one cascade.zero parts cascade.down j part s t x at symbol
    (cascade.one_is s t (omega (arith, in_s, cascade.one_lawful.length)) (omega (arith, in_t, cascade.one_lawful.length)))
    in_part
  where
    among : (l : ℕ) → l < j → Contains part.reads l
    among l before =
        subst (λ (list : List ℕ). Contains list l) (sym (cascade.reads j part at)) (l, omega (arith, length-range_with_len 0 j), get_or-range_with_len 0 j l l before ∙ omega arith)

    in_part : (l : ℕ) (other : Part) → l ≤ j → slice_get parts l ≡ Some other → Together other.partition s t
    in_part l other upto here =
        elim (cases_eq l j) [
          | inl same ↦ subst (λ (p : Part). Together p.partition s t) (same_Some part other (sym at ∙ ap (slice_get parts) (sym same) ∙ here)) held
          | inr apart ↦ subst (λ (p : List ℕ). Together p s t) (all_at IsOwnCarrier parts l other cascade.own here) (reads l other (among l (omega arith)) here)
        ]

-- a part and all others determine the state
pub least_flows : (W : KissFile) (parts : List Part) → NeverLeaves W → All (IsPart (length W.states)) parts → IsLeastSplit parts → Flows W parts
least_flows W parts stays lawful split j part s t x at in_s in_t symbol held reads =
    same_state W part.partition s t x stays (all_at (IsPart (length W.states)) parts j part lawful at).partition in_s symbol (parts_tell_all parts j part s t split at held reads)

-- for the next block of each part, its own block and the carrier of the other part suffice
pub feedback_flows : (W : KissFile) (parts : List Part) → IsFeedback W parts → Flows W parts
feedback_flows W parts feedback = subst (Flows W) (sym feedback.two) (two_flow feedback.first feedback.second feedback.first_reads feedback.second_reads feedback.second_suffices feedback.first_suffices) where
  two_flow : (first second : Part) → first.reads ≡ 1 ∷ [] → second.reads ≡ 0 ∷ [] → Suffices W first.partition second.carrier → Suffices W second.partition first.carrier → Flows W (first ∷ second ∷ [])
  two_flow first second first_reads second_reads second_suffices first_suffices zero part s t x at in_s in_t symbol held reads =
      let is : first ≡ part = same_Some first part at in
      let one : Contains part.reads 1 = subst (λ (p : Part). Contains p.reads 1) is (subst (λ (list : List ℕ). Contains list 1) (sym first_reads) (0, omega arith, refl)) in
      subst (λ (p : Part). Together p.partition (next W s x) (next W t x)) is
      (second_suffices s t x (subst (λ (p : Part). Together p.partition s t) (sym is) held) (reads 1 second one refl) symbol)
  two_flow first second first_reads second_reads second_suffices first_suffices (suc zero) part s t x at in_s in_t symbol held reads =
      let is : second ≡ part = same_Some second part at in
      let none : Contains part.reads 0 = subst (λ (p : Part). Contains p.reads 0) is (subst (λ (list : List ℕ). Contains list 0) (sym second_reads) (0, omega arith, refl)) in
      subst (λ (p : Part). Together p.partition (next W s x) (next W t x)) is
      (first_suffices s t x (subst (λ (p : Part). Together p.partition s t) (sym is) held) (reads 0 first none refl) symbol)
  two_flow first second first_reads second_reads second_suffices first_suffices (suc (suc j)) part s t x at in_s in_t symbol held reads = absurd (none-some part at)
