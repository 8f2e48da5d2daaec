use Rattle.std.proofs.Common.{◌≡◌, ℕ, List, length, refl, sym, ◌∙◌, subst, ap, arith, map}
use Rattle.state_codes.specs.declared.split.Part.{Part}
use Rattle.std.proofs.lemmas.Bool.{false≢true}
use Rattle.kiss_file.specs.declared.file.KissFile.{KissFile}
use Rattle.partition.specs.Partition.{IsPartition, IsZero}
use Rattle.partition.specs.Laws.Extremes.{zero_once}
use Rattle.partition.specs.Laws.Labels.{IsPartition-of}
use Rattle.mm_lattice.specs.Top.{IsGreatestRight}
use Rattle.feedback_split.proofs.Halves.{halves_best, halves_feedback, halves_lawful}
use Rattle.feedback_split.proofs.feedback.split.Goals as goal

-- what is not the one zero is not zero
not_zero : (F : KissFile) (n : ℕ) (first zero : List ℕ) → n ≡ length F.states → IsGreatestRight F first → IsPartition n zero → IsZero zero → (first ≡ zero → ⊥) → IsZero first → ⊥
not_zero F n first zero size greatest lawful is other all = other (zero_once n first zero (IsPartition-of (sym size) greatest.right.1.low.lawful) lawful all is)

pub returns-then-equal-clause-none : goal.returns-then-equal-clause-none
returns-then-equal-clause-none c =
    let same : c.in_ok-first.first ≡ c.in_ok-zero.zero = c.equal.ensures.0 c.if-equal.true in
    ((λ _. c.in_ok-first.ensures.zero.0 (subst IsZero (sym same) c.in_ok-zero.ensures.zero)), (λ _. refl))

pub returns-clause-none : goal.returns-clause-none
returns-clause-none c =
    let other : IsZero c.in_ok-first.first → ⊥ = not_zero c.args.m.now c.states.result c.in_ok-first.first c.in_ok-zero.zero c.states.ensures.count c.in_ok-first.ensures.greatest c.in_ok-zero.ensures.lawful c.in_ok-zero.ensures.zero (λ same. false≢true (sym c.if-equal.false ∙ c.equal.ensures.1 same)) in
    ((λ is. absurd (false≢true (sym is))), (λ trivial. absurd (other (c.in_ok-first.ensures.zero.1 trivial))))

pub returns-clause-feedback : goal.returns-clause-feedback
returns-clause-feedback c =
    let greatest = c.in_ok-first.ensures.greatest in
    let other : IsZero c.in_ok-first.first → ⊥ = not_zero c.args.m.now c.states.result c.in_ok-first.first c.in_ok-zero.zero c.states.ensures.count greatest c.in_ok-zero.ensures.lawful c.in_ok-zero.ensures.zero (λ same. false≢true (sym c.if-equal.false ∙ c.equal.ensures.1 same)) in
    halves_feedback c.args.m.now c.in_ok-first.first c.in_ok-two_parts.field-0 greatest.right.1.low.lawful c.in_ok-two_parts.ensures greatest other

pub returns-clause-best : goal.returns-clause-best
returns-clause-best c =
    let greatest = c.in_ok-first.ensures.greatest in
    halves_best c.args.m.now c.in_ok-first.first c.in_ok-two_parts.field-0 greatest.right.1.low.lawful c.in_ok-two_parts.ensures greatest

pub returns-clause-lawful : goal.returns-clause-lawful
returns-clause-lawful c = halves_lawful c.args.m.now c.in_ok-first.first c.in_ok-two_parts.field-0 c.in_ok-first.ensures.greatest.right.1.low.lawful c.in_ok-two_parts.ensures

pub two_parts-requires : goal.two_parts-requires
two_parts-requires c = c.in_ok-first.ensures.greatest.right.1.low.lawful

pub returns-clause-few : goal.returns-clause-few
returns-clause-few c = omega (arith, ap length c.in_ok-two_parts.ensures.two)

pub returns-clause-choice : goal.returns-clause-choice
returns-clause-choice c =
    let halves = c.in_ok-two_parts.ensures in
    record {
      first = c.in_ok-first.first;
      grown = c.in_ok-first.ensures.growth;
      second = halves.second;
      complement = halves.complement;
      partitions = ap (λ (parts : List Part). map (λ part. part.partition) parts) halves.two;
      first_carrier = halves.first_carrier;
      first_grown = halves.first_grown;
      second_carrier = halves.second_carrier;
      second_grown = halves.second_grown;
      carriers = ap (λ (parts : List Part). map (λ part. part.carrier) parts) halves.two;
    }
