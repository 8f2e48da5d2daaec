-- The two parts of a serial split.
use Rattle.std.proofs.Common.{◌≡◌, ℕ, All, List, [], ◌∷◌, length, Some, refl, sym, ◌∙◌, subst, arith}
use Rattle.std.specs.List.{slice_get}
use Rattle.std.proofs.lemmas.List.Elements.{All-nil, All-cons, All-head, All-tail}
use Rattle.std.proofs.lemmas.Option.{same_Some}
use Rattle.kiss_file.specs.declared.file.KissFile.{KissFile}
use Rattle.partition.specs.Partition.{IsNontrivial, IsOne, IsPartition, Lt, Together, blocks_of, zero_of}
use Rattle.partition.specs.NestedBlocks.{IsComplement, IsLargestSize}
use Rattle.partition.specs.Laws.Extremes.{zero_of_is_zero, zero_of_is_partition}
use Rattle.partition.specs.Laws.Labels.{IsPartition-of}
use Rattle.closed_lattice.specs.ClosedPartitions.{IsClosedPartition}
use Rattle.closed_lattice.specs.Limits.{IsGreatestGrown}
use Rattle.state_codes.specs.declared.split.Part.{Part}
use Rattle.state_codes.specs.Split.{IsPart}
use Rattle.state_codes.specs.Kinds.{IsOwnCarrier, PartsMeetInZero}
use Rattle.state_codes.specs.Laws.InnerLabels.{complement_apart}
use Rattle.serial_split.specs.Kind.{IsSerial}
use Rattle.serial_split.specs.Best.{IsBestSerial}
use Rattle.serial_split.specs.Inner.Chain.{part_after}
use Rattle.serial_split.specs.Laws.Greatest.{nothing_between, ones_are_one}

module _ (F : KissFile) (first second : List ℕ) (parts : List Part) (two : parts ≡ part_after first 0 ∷ part_after second 1 ∷ []) where
  lone : (P : Part → Type 0) → P (part_after first 0) → P (part_after second 1) → All P parts
  lone P one other =
      subst (All P) (sym two) (All-cons P (part_after first 0) (part_after second 1 ∷ []) one (All-cons P (part_after second 1) [] other (All-nil P)))

  in_zero : IsPartition (length F.states) first → IsComplement first second → PartsMeetInZero parts
  in_zero lawful complement s t all =
      let P : Part → Type 0 = λ p. Together p.partition s t in
      let both : All P (part_after first 0 ∷ part_after second 1 ∷ []) = subst (All P) two all in
      let held : Together first s t = All-head P (part_after first 0) (part_after second 1 ∷ []) both in
      let inner : Together second s t = All-head P (part_after second 1) [] (All-tail P (part_after first 0) (part_after second 1 ∷ []) both) in
      complement_apart (length F.states) first second lawful complement s t held inner

  pub serial_parts : IsClosedPartition F first → IsNontrivial first → IsComplement first second → IsLargestSize first (blocks_of second) → IsSerial F parts
  serial_parts closed nontrivial complement blocks = record {
    first = part_after first 0;
    second = part_after second 1;
    two = two;
    own = lone IsOwnCarrier refl refl;
    closed = closed;
    nontrivial = nontrivial;
    in_zero = in_zero closed.0 complement;
    blocks = blocks;
    first_reads = refl;
    second_reads = refl;
  }

  pub serial_lawful : IsPartition (length F.states) first → IsComplement first second → All (IsPart (length F.states)) parts
  serial_lawful lawful complement =
      let inner : IsPartition (length F.states) second = IsPartition-of lawful.length complement.lawful in
      lone (IsPart (length F.states)) (record { partition = lawful; carrier = lawful; above = λ s t held. held }) (record { partition = inner; carrier = inner; above = λ s t held. held })

  pub serial_best : (one : List ℕ) → IsPartition (length F.states) one → IsOne one → IsGreatestGrown F (λ p. Lt p one) (zero_of (length F.states)) first → IsBestSerial F parts
  serial_best one lawful is greatest part other at other_lawful other_is q closed above below =
      let same : part_after first 0 ≡ part = same_Some (part_after first 0) part (subst (λ (list : List Part). slice_get list 0 ≡ Some part) two at) in
      nothing_between F one first greatest q closed (subst (λ (p : Part). Lt p.partition q) (sym same) above)
      (subst (λ (top : List ℕ). Lt q top) (ones_are_one (length F.states) other one other_lawful other_is lawful is) below)
