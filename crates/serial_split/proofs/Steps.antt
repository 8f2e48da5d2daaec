-- Steps down a chain of closed partitions, and what the parts that they give are.
use Rattle.std.proofs.Common.{◌≡◌, ℕ, ◌+◌, ◌<◌, ◌≤◌, inl, inr, All, List, [], ◌∷◌, ◌++◌, length, get_or, Some, refl, sym, ap, ◌∙◌, subst, arith}
use Rattle.std.specs.List.{range_with_len, slice_get}
use Rattle.std.proofs.lemmas.Bool.{cases_lt}
use Rattle.std.proofs.lemmas.List.{length_push, get_or_append_left, get_or_push}
use Rattle.std.proofs.lemmas.List.Elements.{All-nil, All-cons, All-head, All-tail}
use Rattle.std.proofs.lemmas.Option.{none-some, same_Some, slice_get-get_or, slice_get_within}
use Rattle.kiss_file.specs.declared.file.KissFile.{KissFile}
use Rattle.partition.specs.Partition.{IsNontrivial, IsOne, IsPartition, IsZero, Le, Together}
use Rattle.partition.specs.MeetAndJoin.{IsMeet}
use Rattle.partition.specs.Laws.Labels.{blocks_of-le, label-lt-blocks_of, IsPartition-of}
use Rattle.closed_lattice.specs.ClosedPartitions.{IsClosedPartition}
use Rattle.partition.specs.Laws.Blocks.{strictly_fewer}
use Rattle.state_codes.specs.declared.split.Part.{Part}
use Rattle.state_codes.specs.Split.{IsPart, TogetherInAll}
use Rattle.state_codes.specs.Kinds.{IsOwnCarrier, PartsMeetInZero}
use Rattle.state_codes.specs.Laws.InnerLabels.{inside_tells, inside_same}
use Rattle.serial_split.specs.Kind.{Descends, HasNoneNontrivial, IsCascade}
use Rattle.serial_split.specs.Best.{DescendsTightly, IsBestCascade}
use Rattle.serial_split.specs.Choice.{IsCascadeChoice, StepsDown, partitions_of}
use Rattle.serial_split.specs.Inner.Chain.{IsChain, IsStep, ReadThoseBefore, StepsTo}
use Rattle.serial_split.specs.Laws.Greatest.{greatest_nontrivial, none_above_zero, none_of_one_state, nothing_between, one_above, ones_are_one}

-- one step more
steps_more : (F : KissFile) (c d e : List ℕ) (parts : List Part) (part : Part) → StepsTo F c parts d → IsStep F d part e → StepsTo F c (parts ++ part ∷ []) e
steps_more F c d e [] part here step = (e, subst (λ (x : List ℕ). IsStep F x part e) (sym here) step, refl)
steps_more F c d e (first ∷ parts) part (next, one, rest) step = (next, one, steps_more F next d e parts part rest step)

reads_more : (parts : List Part) (part : Part) → ReadThoseBefore parts → part.reads ≡ range_with_len 0 (length parts) → ReadThoseBefore (parts ++ part ∷ [])
reads_more parts part reads last j other at =
    let within : j < length parts + 1 = omega (arith, slice_get_within (parts ++ part ∷ []) j other at, length_push parts part) in
    let read : get_or (parts ++ part ∷ []) j other ≡ other = same_Some (get_or (parts ++ part ∷ []) j other) other (sym (slice_get-get_or (parts ++ part ∷ []) j other (slice_get_within (parts ++ part ∷ []) j other at)) ∙ at) in
    elim (cases_lt j (length parts)) [
      | inl before ↦
          reads j other (slice_get-get_or parts j other before ∙ ap Some (sym (get_or_append_left parts (part ∷ []) other j before) ∙ read))
      | inr end ↦
          let here : length parts ≡ j = omega arith in
          let is : other ≡ part = sym read ∙ get_or_push parts part other j here in
          ap (λ (p : Part). p.reads) is ∙ last ∙ ap (range_with_len 0) here
    ]

module _ (F : KissFile) (c : List ℕ) (part : Part) (next : List ℕ) (lawful : IsPartition (length F.states) c) (step : IsStep F c part next) where
  step_lawful : IsPartition (length F.states) next
  step_lawful = step.greatest.closed.0

  part_lawful : IsPartition (length F.states) part.partition
  part_lawful = IsPartition-of lawful.length step.inside.lawful

  step_is_part : IsPart (length F.states) part
  step_is_part = record {
    partition = part_lawful;
    carrier = subst (IsPartition (length F.states)) (sym step.own) part_lawful;
    above = λ s t held. subst (λ (p : List ℕ). Together p s t) (sym step.own) held;
  }

  -- the step leads to the meet with the part
  step_meets : IsMeet c part.partition next
  step_meets = record {
    lawful = IsPartition-of (sym lawful.length) step_lawful;
    together = λ s t. (
      (λ held. (le s t held, (omega (arith, held.0, step_lawful.length, part_lawful.length), omega (arith, held.1, step_lawful.length, part_lawful.length), inside_same c next part.partition le size step.inside s t held))),
      (λ both. (omega (arith, both.0.0, size), omega (arith, both.0.1, size), inside_tells c next part.partition le size step.inside s t both.0 both.1.2)),
    );
  }
    where
      le : Le next c
      le = step.greatest.meets.0

      size : length next ≡ length c
      size = step_lawful.length ∙ sym lawful.length

descends : (F : KissFile) (c d : List ℕ) (parts : List Part) → IsPartition (length F.states) c → StepsTo F c parts d → Descends F c parts d
descends F c d [] lawful here = here
descends F c d (part ∷ parts) lawful (next, step, rest) =
    (next, step_meets F c part next lawful step, step.greatest.closed, step.greatest.meets, descends F next d parts (step_lawful F c part next lawful step) rest)

descends_tightly : (F : KissFile) (c d : List ℕ) (parts : List Part) → IsPartition (length F.states) c → StepsTo F c parts d → DescendsTightly F c parts
descends_tightly F c d [] lawful here = tt
descends_tightly F c d (part ∷ parts) lawful (next, step, rest) =
    (next, step_meets F c part next lawful step, nothing_between F c next step.greatest, descends_tightly F next d parts (step_lawful F c part next lawful step) rest)

steps_down : (F : KissFile) (c d : List ℕ) (parts : List Part) → StepsTo F c parts d → StepsDown F c (partitions_of parts) d
steps_down F c d [] here = here
steps_down F c d (part ∷ parts) (next, step, rest) = (step.not_zero, (next, step.grown, step.inside, steps_down F next d parts rest))

all_own : (F : KissFile) (c d : List ℕ) (parts : List Part) → StepsTo F c parts d → All IsOwnCarrier parts
all_own F c d [] here = All-nil IsOwnCarrier
all_own F c d (part ∷ parts) (next, step, rest) = All-cons IsOwnCarrier part parts step.own (all_own F next d parts rest)

all_parts : (F : KissFile) (c d : List ℕ) (parts : List Part) → IsPartition (length F.states) c → StepsTo F c parts d → All (IsPart (length F.states)) parts
all_parts F c d [] lawful here = All-nil (IsPart (length F.states))
all_parts F c d (part ∷ parts) lawful (next, step, rest) =
    All-cons (IsPart (length F.states)) part parts (step_is_part F c part next lawful step) (all_parts F next d parts (step_lawful F c part next lawful step) rest)

-- states that are together at the top and in each part are together at the end
together_down : (F : KissFile) (c d : List ℕ) (parts : List Part) → IsPartition (length F.states) c → StepsTo F c parts d → (s t : ℕ) → Together c s t → TogetherInAll parts s t → Together d s t
together_down F c d [] lawful here s t held all = subst (λ (x : List ℕ). Together x s t) here held
together_down F c d (part ∷ parts) lawful (next, step, rest) s t held all =
    let P : Part → Type 0 = λ p. Together p.partition s t in
    together_down F next d parts (step_lawful F c part next lawful step) rest s t
    (((step_meets F c part next lawful step).together s t).1 (held, All-head P part parts all)) (All-tail P part parts all)

-- At first there is one alone.
pub chain_begun : (F : KissFile) (one : List ℕ) → IsPartition (length F.states) one → IsOne one → IsChain F [] one
chain_begun F one lawful is = record {
  one = one;
  one_lawful = lawful;
  one_is = is;
  steps = refl;
  reads = λ j part at. absurd (none-some part at);
  lawful = lawful;
  few = omega (arith, label-lt-blocks_of one 0 (omega (arith, lawful.length, lawful.count.0)));
}

pub chain_more : (F : KissFile) (parts : List Part) (part : Part) (d next : List ℕ) → IsChain F parts d → IsStep F d part next → part.reads ≡ range_with_len 0 (length parts) → IsChain F (parts ++ part ∷ []) next
chain_more F parts part d next so_far step reads =
    let on : IsPartition (length F.states) next = step.greatest.closed.0 in
    record {
      one = so_far.one;
      one_lawful = so_far.one_lawful;
      one_is = so_far.one_is;
      steps = steps_more F so_far.one d next parts part so_far.steps step;
      reads = reads_more parts part so_far.reads reads;
      lawful = on;
      few = omega (arith, length_push parts part, so_far.few, strictly_fewer (length F.states) next d on so_far.lawful step.greatest.meets.0 step.greatest.meets.1);
    }

pub chain_few : (F : KissFile) (parts : List Part) (d : List ℕ) → IsChain F parts d → length parts + 1 ≤ length F.states
chain_few F parts d all = omega (arith, all.few, blocks_of-le d all.lawful.numbered, all.lawful.length)

pub chain_parts : (F : KissFile) (parts : List Part) (d : List ℕ) → IsChain F parts d → All (IsPart (length F.states)) parts
chain_parts F parts d all = all_parts F all.one d parts all.one_lawful all.steps

-- A chain of one step or none has nothing between one and zero.
none_in_short : (F : KissFile) (one d : List ℕ) (parts : List Part) → IsPartition (length F.states) one → IsOne one → StepsTo F one parts d → IsZero d → length parts < 2 → HasNoneNontrivial F
none_in_short F one d [] lawful is here zero short = none_of_one_state F one lawful is (subst IsZero (sym here) zero)
none_in_short F one d (part ∷ []) lawful is (next, step, here) zero short = none_above_zero F one next lawful is step.greatest (subst IsZero (sym here) zero)
none_in_short F one d (part ∷ second ∷ parts) lawful is steps zero short = absurd (omega arith)

pub chain_short : (F : KissFile) (parts : List Part) (d : List ℕ) → IsChain F parts d → IsZero d → length parts < 2 → HasNoneNontrivial F
chain_short F parts d all zero short = none_in_short F all.one d parts all.one_lawful all.one_is all.steps zero short

-- A longer one has its first step there.
first_step : (F : KissFile) (one d : List ℕ) (parts : List Part) → IsPartition (length F.states) one → IsOne one → StepsTo F one parts d → 2 ≤ length parts → (next : List ℕ) × IsClosedPartition F next × IsNontrivial next
first_step F one d [] lawful is here long = absurd (omega arith)
first_step F one d (part ∷ []) lawful is here long = absurd (omega arith)
first_step F one d (part ∷ second ∷ parts) lawful is (next, step, (after, on, rest)) long =
    (next, step.greatest.closed, greatest_nontrivial F one next lawful is step.greatest on.not_zero)

pub chain_long : (F : KissFile) (parts : List Part) (d : List ℕ) → IsChain F parts d → 2 ≤ length parts → HasNoneNontrivial F → ⊥
chain_long F parts d all long none =
    let first = first_step F all.one d parts all.one_lawful all.one_is all.steps long in
    none first.0 first.1 first.2

first_nontrivial : (F : KissFile) (one d : List ℕ) (parts : List Part) → IsPartition (length F.states) one → IsOne one → StepsTo F one parts d → 2 ≤ length parts → (first : Part) → slice_get parts 0 ≡ Some first → IsNontrivial first.partition
first_nontrivial F one d [] lawful is here long first at = absurd (omega arith)
first_nontrivial F one d (part ∷ []) lawful is here long first at = absurd (omega arith)
first_nontrivial F one d (part ∷ second ∷ parts) lawful is (next, step, (after, on, rest)) long first at =
    subst (λ (p : Part). IsNontrivial p.partition) (same_Some part first at) (
      (λ zero. on.not_zero (λ s t held. zero s t ((meets.together s t).0 held).1)),
      (λ all. step.greatest.meets.1 (λ s t held. (meets.together s t).1 (held, all s t (omega (arith, held.0, lawful.length, own.length)) (omega (arith, held.1, lawful.length, own.length))))),
    )
  where
    meets : IsMeet one part.partition next
    meets = step_meets F one part next lawful step

    own : IsPartition (length F.states) part.partition
    own = part_lawful F one part next lawful step

meet_in_zero : (F : KissFile) (one d : List ℕ) (parts : List Part) → IsPartition (length F.states) one → IsOne one → StepsTo F one parts d → IsZero d → 2 ≤ length parts → PartsMeetInZero parts
meet_in_zero F one d [] lawful is steps zero long s t all = absurd (omega arith)
meet_in_zero F one d (part ∷ parts) lawful is (next, step, rest) zero long s t all =
    let P : Part → Type 0 = λ p. Together p.partition s t in
    let head : Together part.partition s t = All-head P part parts all in
    let top : Together one s t = one_above (length F.states) one part.partition lawful is (part_lawful F one part next lawful step) s t head in
    zero s t (together_down F one d (part ∷ parts) lawful (next, step, rest) s t top all)

pub chain_cascade : (F : KissFile) (parts : List Part) (d : List ℕ) → IsChain F parts d → IsZero d → 2 ≤ length parts → IsCascade F parts
chain_cascade F parts d all zero long = record {
  several = long;
  own = all_own F all.one d parts all.steps;
  nontrivial = first_nontrivial F all.one d parts all.one_lawful all.one_is all.steps long;
  one = all.one;
  one_lawful = all.one_lawful;
  one_is = all.one_is;
  zero = d;
  zero_is = zero;
  down = descends F all.one d parts all.one_lawful all.steps;
  in_zero = meet_in_zero F all.one d parts all.one_lawful all.one_is all.steps zero long;
  reads = all.reads;
}

pub chain_best : (F : KissFile) (parts : List Part) (d : List ℕ) → IsChain F parts d → IsBestCascade F parts
chain_best F parts d all one lawful is =
    subst (λ (top : List ℕ). DescendsTightly F top parts) (ones_are_one (length F.states) all.one one all.one_lawful all.one_is lawful is)
    (descends_tightly F all.one d parts all.one_lawful all.steps)

pub chain_choice : (F : KissFile) (parts : List Part) (d : List ℕ) → IsChain F parts d → IsZero d → IsCascadeChoice F parts
chain_choice F parts d all zero = record {
  one = all.one;
  one_lawful = all.one_lawful;
  one_is = all.one_is;
  zero = d;
  zero_is = zero;
  steps = steps_down F all.one d parts all.steps;
}
