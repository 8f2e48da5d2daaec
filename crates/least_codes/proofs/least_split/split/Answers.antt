use Rattle.std.proofs.Common.{◌≡◌, ◌∙◌, ℕ, ◌^◌, ◌<◌, ◌≤◌, All, List, get_or, length, inl, inr, ap, subst, sym, refl, arith}
use Rattle.std.proofs.lemmas.Bool.{cases_eq}
use Rattle.kiss_file.specs.declared.file.KissFile.{KissFile}
use Rattle.partition.specs.Partition.{IsPartition}
use Rattle.state_codes.specs.declared.split.Part.{Part}
use Rattle.state_codes.specs.Code.{need}
use Rattle.state_codes.specs.Laws.Need.{need-enough}
use Rattle.state_codes.specs.Laws.Splits.{given_parts-length}
use Rattle.state_codes.specs.Split.{given_parts}
use Rattle.least_codes.specs.Inner.Parts.{AreBitLabels}
use Rattle.least_codes.specs.Kind.{GiveLeastCode, IsLeastSplit}
use Rattle.least_codes.specs.LeastCode.{IsLeastCode}
use Rattle.least_codes.proofs.BitParts.{give_least_code, lawful_all, least_split}
use Rattle.least_codes.proofs.Halves.{some_one}
use Rattle.least_codes.proofs.least_split.split.Goals as goal

module _ (F : KissFile) (words : List ℕ) (partitions : List (List ℕ)) (bits : ℕ) (some : 3 ≤ length F.states) (most : length F.states ≤ 8) (least : IsLeastCode F words) (first : get_or words 0 0 ≡ 0) (needed : bits ≡ need (length F.states))
    (are : AreBitLabels bits words partitions) where
  are_needed : AreBitLabels (need (length F.states)) words partitions
  are_needed = subst (λ (b : ℕ). AreBitLabels b words partitions) needed are

  any_bit : 0 < need (length F.states)
  any_bit = elim (cases_eq (need (length F.states)) 0) [
    | inl none ↦ absurd (omega (arith, some, need-enough (length F.states), ap (λ (b : ℕ). 2 ^ b) none))
    | inr other ↦ omega (arith, other)
  ]

  lawful_here : All (IsPartition (length F.states)) partitions
  lawful_here =
      lawful_all (length F.states) (need (length F.states)) words partitions (omega (arith, some), omega (arith, most)) least.codes are_needed first (λ i below. some_one (length F.states) words i least.codes below)

  module _ (count : ℕ) (parts : List Part) (all : count ≡ bits) (is : parts ≡ given_parts count 0 partitions) where
    parts_are : parts ≡ given_parts (need (length F.states)) 0 partitions
    parts_are = is ∙ ap (λ (k : ℕ). given_parts k 0 partitions) (all ∙ needed)

    split_here : IsLeastSplit parts
    split_here =
        subst IsLeastSplit (sym parts_are)
        (least_split (length F.states) (need (length F.states)) words partitions (omega (arith, some), omega (arith, most)) least.codes are_needed first (λ i below. some_one (length F.states) words i least.codes below) any_bit)

    code_here : GiveLeastCode F parts
    code_here =
        subst (GiveLeastCode F) (sym parts_are)
        (give_least_code (length F.states) (need (length F.states)) words partitions (omega (arith, some), omega (arith, most)) least.codes are_needed first (λ i below. some_one (length F.states) words i least.codes below) F refl refl least)

    bits_here : length parts ≡ need (length F.states)
    bits_here = ap (λ (list : List Part). length list) parts_are ∙ given_parts-length (need (length F.states)) 0 partitions ∙ are_needed.count

pub returns-clause-least : goal.returns-clause-least
returns-clause-least c =
    split_here c.args.m.now c.in_ok-words.words.items c.in_ok-partitions.partitions.items c.bits_for.result c.requires.some c.requires.most c.in_ok-words.ensures.least c.in_ok-words.ensures.zero (c.bits_for.ensures.need ∙ ap need c.states.ensures.count)
    (subst (λ (list : List ℕ). AreBitLabels c.bits_for.result list c.in_ok-partitions.partitions.items) c.as_slice.ensures.value c.in_ok-partitions.ensures) _ c.in_ok-given.field-0.parts (omega (arith, c.in_ok-partitions.ensures.count)) c.in_ok-given.ensures.parts

pub returns-clause-code : goal.returns-clause-code
returns-clause-code c =
    code_here c.args.m.now c.in_ok-words.words.items c.in_ok-partitions.partitions.items c.bits_for.result c.requires.some c.requires.most c.in_ok-words.ensures.least c.in_ok-words.ensures.zero (c.bits_for.ensures.need ∙ ap need c.states.ensures.count)
    (subst (λ (list : List ℕ). AreBitLabels c.bits_for.result list c.in_ok-partitions.partitions.items) c.as_slice.ensures.value c.in_ok-partitions.ensures) _ c.in_ok-given.field-0.parts (omega (arith, c.in_ok-partitions.ensures.count)) c.in_ok-given.ensures.parts

pub returns-clause-bits : goal.returns-clause-bits
returns-clause-bits c =
    bits_here c.args.m.now c.in_ok-words.words.items c.in_ok-partitions.partitions.items c.bits_for.result c.requires.some c.requires.most c.in_ok-words.ensures.least c.in_ok-words.ensures.zero (c.bits_for.ensures.need ∙ ap need c.states.ensures.count)
    (subst (λ (list : List ℕ). AreBitLabels c.bits_for.result list c.in_ok-partitions.partitions.items) c.as_slice.ensures.value c.in_ok-partitions.ensures) _ c.in_ok-given.field-0.parts (omega (arith, c.in_ok-partitions.ensures.count)) c.in_ok-given.ensures.parts

pub returns-clause-lawful : goal.returns-clause-lawful
returns-clause-lawful c =
    c.in_ok-given.ensures.lawful (length c.args.m.now.states)
    (lawful_here c.args.m.now c.in_ok-words.words.items c.in_ok-partitions.partitions.items c.bits_for.result c.requires.some c.requires.most c.in_ok-words.ensures.least c.in_ok-words.ensures.zero (c.bits_for.ensures.need ∙ ap need c.states.ensures.count)
    (subst (λ (list : List ℕ). AreBitLabels c.bits_for.result list c.in_ok-partitions.partitions.items) c.as_slice.ensures.value c.in_ok-partitions.ensures))
