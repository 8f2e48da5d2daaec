-- There is one feedback split that is chosen.
use Rattle.std.proofs.Common.{◌≡◌, ℕ, ◌<◌, ◌⊎◌, inl, inr, List, [], ◌∷◌, length, map, refl, sym, ap, ◌∙◌, subst, arith}
use Rattle.kiss_file.specs.declared.file.KissFile.{KissFile}
use Rattle.mm_lattice.specs.Generators.{IsRightOf}
use Rattle.mm_lattice.specs.Top.{IsBelowOne}
use Rattle.pair_operators.specs.Extremes.{IsLow}
use Rattle.pair_operators.specs.Growth.{pairs_of}
use Rattle.pair_operators.specs.Laws.Extremes.{low_once}
use Rattle.pair_operators.specs.Laws.Growth.{grown_once}
use Rattle.partition.specs.NestedBlocks.{IsComplement}
use Rattle.partition.specs.Partition.{IsHold, Together, zero_of}
use Rattle.partition.specs.Laws.Extremes.{zero_of_is_partition, zero_of_is_zero}
use Rattle.partition.specs.Laws.Labels.{same_labels}
use Rattle.state_codes.specs.declared.split.Part.{Part}
use Rattle.state_codes.specs.Laws.InnerLabels.{inside_once}
use Rattle.feedback_split.specs.Carrier.{IsCarrierGrowth, Suffices}
use Rattle.feedback_split.specs.Choice.{IsFeedbackChoice, IsRightGrowth}
use Rattle.feedback_split.specs.Kind.{IsFeedback}
use Rattle.feedback_split.specs.Laws.{FeedbackChoiceIsOne}

-- the partition that holds two states and nothing else is one
held_by : (n s t : ℕ) (p q : List ℕ) → IsHold n s t p → IsHold n s t q → (u v : ℕ) → Together p u v → Together q u v
held_by n s t p q one other u v held =
    elim (one.nothing_else u v held) [
      | inl same ↦ let within : u < length q = omega (arith, held.0, one.lawful.length, other.lawful.length) in subst (λ (w : ℕ). Together q u w) same (within, within, refl)
      | inr (inl (is_s, is_t)) ↦ subst (λ (w : ℕ). Together q w v) (sym is_s) (subst (λ (w : ℕ). Together q s w) (sym is_t) other.held)
      | inr (inr (is_t, is_s)) ↦
          let turned : Together q t s = (other.held.1, other.held.0, sym other.held.2) in
          subst (λ (w : ℕ). Together q w v) (sym is_t) (subst (λ (w : ℕ). Together q t w) (sym is_s) turned)
    ]

holds_are_one : (n s t : ℕ) (p q : List ℕ) → IsHold n s t p → IsHold n s t q → p ≡ q
holds_are_one n s t p q one other =
    same_labels p q one.lawful.numbered other.lawful.numbered (one.lawful.length ∙ sym other.lawful.length) (λ u v. (held_by n s t p q one other u v, held_by n s t q p other one u v))

-- and so is m of it
rights_are_one : (F : KissFile) (s t : ℕ) (p q : List ℕ) → IsRightOf F s t p → IsRightOf F s t q → p ≡ q
rights_are_one F s t p q one other =
    low_once F other.hold p q (subst (λ (h : List ℕ). IsLow F h p) (holds_are_one (length F.states) s t one.hold other.hold one.holds other.holds) one.low) other.low

-- so are the first part, its complement, and the carriers
firsts_are_one : (F : KissFile) (p q : List ℕ) → IsRightGrowth F p → IsRightGrowth F q → p ≡ q
firsts_are_one F p q one other = grown_once (IsRightOf F) IsBelowOne (rights_are_one F) (zero_of (length F.states)) p q (pairs_of (length F.states)) one other

carriers_are_one : (F : KissFile) (own start c d : List ℕ) → IsCarrierGrowth F own start c → IsCarrierGrowth F own start d → c ≡ d
carriers_are_one F own start c d one other =
    grown_once (IsHold (length F.states)) (Suffices F own) (holds_are_one (length F.states)) start c d (pairs_of (length F.states)) one other

-- a part is what its fields are
same_part : (part other : Part) → part.partition ≡ other.partition → part.carrier ≡ other.carrier → part.reads ≡ other.reads → part ≡ other
same_part part other partition carrier reads =
    ap (λ (p : List ℕ). record { partition = p; carrier = part.carrier; reads = part.reads }) partition
    ∙ ap (λ (p : List ℕ). record { partition = other.partition; carrier = p; reads = part.reads }) carrier
    ∙ ap (λ (numbers : List ℕ). record { partition = other.partition; carrier = other.carrier; reads = numbers }) reads

-- two parts with the same partitions, carriers and reads
same_two : (a b c d : Part) → map (λ part. part.partition) (a ∷ b ∷ []) ≡ map (λ part. part.partition) (c ∷ d ∷ []) → map (λ part. part.carrier) (a ∷ b ∷ []) ≡ map (λ part. part.carrier) (c ∷ d ∷ []) → a.reads ≡ c.reads → b.reads ≡ d.reads
    → ◌≡◌ {A = List Part} (a ∷ b ∷ []) (c ∷ d ∷ [])
same_two a b c d partitions carriers first_reads second_reads =
    let first_partition : a.partition ≡ c.partition = cc in
    let second_partition : b.partition ≡ d.partition = cc in
    let first_carrier : a.carrier ≡ c.carrier = cc in
    let second_carrier : b.carrier ≡ d.carrier = cc in
    ap (λ (p : Part). p ∷ b ∷ []) (same_part a c first_partition first_carrier first_reads) ∙ ap (λ (p : Part). c ∷ p ∷ []) (same_part b d second_partition second_carrier second_reads)

module _ (F : KissFile) (one other : List Part) (choice : IsFeedbackChoice F one) (other_choice : IsFeedbackChoice F other) where
  first_same : choice.first ≡ other_choice.first
  first_same = firsts_are_one F choice.first other_choice.first choice.grown other_choice.grown

  second_same : choice.second ≡ other_choice.second
  second_same = inside_once other_choice.first (zero_of (length other_choice.first)) choice.second other_choice.second (subst (λ (p : List ℕ). IsComplement p choice.second) first_same choice.complement) other_choice.complement

  first_carrier_same : choice.first_carrier ≡ other_choice.first_carrier
  first_carrier_same =
      carriers_are_one F other_choice.second other_choice.first choice.first_carrier other_choice.first_carrier
      (subst (λ (p : List ℕ). IsCarrierGrowth F other_choice.second p choice.first_carrier) first_same (subst (λ (p : List ℕ). IsCarrierGrowth F p choice.first choice.first_carrier) second_same choice.first_grown))
      other_choice.first_grown

  second_carrier_same : choice.second_carrier ≡ other_choice.second_carrier
  second_carrier_same =
      carriers_are_one F other_choice.first other_choice.second choice.second_carrier other_choice.second_carrier
      (subst (λ (p : List ℕ). IsCarrierGrowth F other_choice.first p choice.second_carrier) second_same (subst (λ (p : List ℕ). IsCarrierGrowth F p choice.second choice.second_carrier) first_same choice.second_grown))
      other_choice.second_grown

  partitions_same : map (λ part. part.partition) one ≡ map (λ part. part.partition) other
  partitions_same =
      choice.partitions ∙ ap (λ (p : List ℕ). p ∷ choice.second ∷ []) first_same ∙ ap (λ (p : List ℕ). other_choice.first ∷ p ∷ []) second_same ∙ sym other_choice.partitions

  carriers_same : map (λ part. part.carrier) one ≡ map (λ part. part.carrier) other
  carriers_same =
      choice.carriers ∙ ap (λ (p : List ℕ). p ∷ choice.second_carrier ∷ []) first_carrier_same ∙ ap (λ (p : List ℕ). other_choice.first_carrier ∷ p ∷ []) second_carrier_same ∙ sym other_choice.carriers

pub choice_is_one : FeedbackChoiceIsOne
choice_is_one F one other feedback other_feedback choice other_choice =
    let partitions : map (λ part. part.partition) (feedback.first ∷ feedback.second ∷ []) ≡ map (λ part. part.partition) (other_feedback.first ∷ other_feedback.second ∷ []) =
    ap (map (λ part. part.partition)) (sym feedback.two) ∙ partitions_same F one other choice other_choice ∙ ap (map (λ part. part.partition)) other_feedback.two in
    let carriers : map (λ part. part.carrier) (feedback.first ∷ feedback.second ∷ []) ≡ map (λ part. part.carrier) (other_feedback.first ∷ other_feedback.second ∷ []) =
    ap (map (λ part. part.carrier)) (sym feedback.two) ∙ carriers_same F one other choice other_choice ∙ ap (map (λ part. part.carrier)) other_feedback.two in
    feedback.two
    ∙ same_two feedback.first feedback.second other_feedback.first other_feedback.second partitions carriers (feedback.first_reads ∙ sym other_feedback.first_reads) (feedback.second_reads ∙ sym other_feedback.second_reads)
    ∙ sym other_feedback.two
