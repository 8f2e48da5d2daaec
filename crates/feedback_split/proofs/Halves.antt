-- The two parts of a feedback split.
use Rattle.std.proofs.Common.{◌≡◌, ℕ, All, List, [], ◌∷◌, length, refl, sym, ◌∙◌, subst, inl, inr, arith}
use Rattle.std.proofs.lemmas.List.Elements.{All-cons, All-head, All-nil, All-tail}
use Rattle.kiss_file.specs.declared.file.KissFile.{KissFile}
use Rattle.partition.specs.Partition.{IsPartition, IsZero, Together}
use Rattle.partition.specs.Laws.Labels.{IsPartition-of}
use Rattle.mm_lattice.specs.Top.{IsGreatestRight}
use Rattle.state_codes.specs.declared.split.Part.{Part}
use Rattle.state_codes.specs.Kinds.{PartsMeetInZero}
use Rattle.state_codes.specs.Split.{IsPart}
use Rattle.state_codes.specs.Laws.InnerLabels.{complement_apart}
use Rattle.feedback_split.specs.Best.{IsBestFeedback}
use Rattle.feedback_split.specs.Inner.Parts.{AreHalves, part_reading}
use Rattle.feedback_split.specs.Kind.{IsFeedback}
use Rattle.feedback_split.proofs.Sufficing.{greatest_breaks}

module _ (F : KissFile) (first : List ℕ) (parts : List Part) (lawful : IsPartition (length F.states) first) (halves : AreHalves F first parts) where
  in_zero : PartsMeetInZero parts
  in_zero s t all =
      let P : Part → Type 0 = λ p. Together p.partition s t in
      let one : Part = part_reading first halves.first_carrier 1 in
      let other : Part = part_reading halves.second halves.second_carrier 0 in
      let both : All P (one ∷ other ∷ []) = subst (All P) halves.two all in
      complement_apart (length F.states) first halves.second lawful halves.complement s t (All-head P one (other ∷ []) both) (All-head P other [] (All-tail P one (other ∷ []) both))

  pub halves_feedback : IsGreatestRight F first → (IsZero first → ⊥) → IsFeedback F parts
  halves_feedback greatest not_zero = record {
    first = part_reading first halves.first_carrier 1;
    second = part_reading halves.second halves.second_carrier 0;
    two = halves.two;
    right = greatest.right;
    nontrivial = (not_zero, elim greatest.below [ inl below ↦ below | inr zero ↦ absurd (not_zero zero) ]);
    in_zero = in_zero;
    blocks = halves.blocks;
    first_above = halves.first_greatest.above;
    second_above = halves.second_greatest.above;
    second_suffices = halves.second_greatest.suffices;
    first_suffices = halves.first_greatest.suffices;
    first_reads = refl;
    second_reads = refl;
  }

  pub halves_best : IsGreatestRight F first → IsBestFeedback F parts
  halves_best greatest = record {
    first = part_reading first halves.first_carrier 1;
    second = part_reading halves.second halves.second_carrier 0;
    two = halves.two;
    greatest = λ q right above below. above.1 (greatest.greatest q right below above.0);
    second_carrier = greatest_breaks F first halves.second halves.second_carrier halves.second_greatest;
    first_carrier = greatest_breaks F halves.second first halves.first_carrier halves.first_greatest;
  }

  pub halves_lawful : All (IsPart (length F.states)) parts
  halves_lawful =
      let P : Part → Type 0 = IsPart (length F.states) in
      let one : Part = part_reading first halves.first_carrier 1 in
      let other : Part = part_reading halves.second halves.second_carrier 0 in
      let inner : IsPartition (length F.states) halves.second = IsPartition-of lawful.length halves.complement.lawful in
      subst (All P) (sym halves.two) (All-cons P one (other ∷ [])
      (record { partition = lawful; carrier = halves.first_greatest.lawful; above = halves.first_greatest.above })
      (All-cons P other [] (record { partition = inner; carrier = halves.second_greatest.lawful; above = halves.second_greatest.above }) (All-nil P)))
