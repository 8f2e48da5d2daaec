-- What is found of a kind is planned.
use Rattle.std.proofs.Common.{◌≡◌, ℕ, ◌<◌, ◌≤◌, ◌↔◌, All, Global, List, Ok, Option, Some, None, IfSome, IsNone, Vec, length, sym, ap, ◌∙◌, subst}
use Rattle.std.specs.Vec.{vec_len}
use Rattle.answers.specs.Cause.{CallsForNone}
use Rattle.answers.specs.Outcome.{IsJudged}
use Rattle.kiss_file.specs.declared.file.KissFile.{KissFile}
use Rattle.operands.specs.PartFaults.{BadParts}
use Rattle.operands.specs.PartTexts.{ArePartTexts}
use Rattle.operands.specs.Laws.Parts.{parts_are_lawful}
use Rattle.partition.specs.declared.Partition.{Partition}
use Rattle.partition.specs.Partition.{IsPartition}
use Rattle.state_codes.specs.declared.split.Kind.{Kind}
use Rattle.state_codes.specs.declared.split.Kind.TheVariants.{Assign}
use Rattle.state_codes.specs.declared.split.Split.{Split}
use Rattle.state_codes.specs.Split.{IsPart, given_parts}
use Rattle.split_texts.specs.GivenParts.{HasFewParts}
use Rattle.split_texts.specs.Kinds.{row_of}
use Rattle.split_texts.specs.Splits.{IsPlanned, Refuses}
use Rattle.split_texts.specs.Inner.SearchResult.{IsFound}
use Rattle.split_texts.specs.Laws.Parts.{few_partitions}

-- ---- parts that are found
planned : (kind : Kind) (text : List ℕ) (W : KissFile) (found : Option Split) → IfSome found (λ split. split.kind ≡ kind) → IfSome found (λ split. (row_of kind).asks text W split.parts) → IfSome found (λ split. (row_of kind).best W split.parts)
    → IfSome found (λ split. (row_of kind).choice W split.parts) → IfSome found (λ split. length split.parts ≤ 256) → IfSome found (λ split. All (IsPart (length W.states)) split.parts) → IfSome found (IsPlanned kind text W)
planned kind text W (Some split) same asked best choice few lawful =
    record { same_kind = same; few = few; lawful = lawful; made = record { asked = asked; best = best; choice = choice } }
planned kind text W None same asked best choice few lawful = tt

-- of a kind that refuses nothing before
pub found_here : (kind k : Kind) (text : List ℕ) (W : KissFile) (found : Option Split) → kind ≡ k → CallsForNone (Refuses k text W) → (IsNone found ↔ (row_of k).none W) → IfSome found (λ split. split.kind ≡ k) → IfSome found (λ split. (row_of k).asks text W split.parts)
    → IfSome found (λ split. (row_of k).best W split.parts) → IfSome found (λ split. (row_of k).choice W split.parts) → IfSome found (λ split. length split.parts ≤ 256) → IfSome found (λ split. All (IsPart (length W.states)) split.parts)
    → IsJudged (Refuses kind text W) (IsFound kind text W) (Ok found)
found_here kind k text W found is fit none same asked best choice few lawful =
    subst (λ (other : Kind). IsJudged (Refuses other text W) (IsFound other text W) (Ok found)) (sym is)
    (fit, record { none = none; some = planned k text W found same asked best choice few lawful })

-- of a kind that every machine has
pub planned_here : (kind k : Kind) (text : List ℕ) (W : KissFile) (split : Split) → kind ≡ k → CallsForNone (Refuses k text W) → ((row_of k).none W → ⊥) → IsPlanned k text W split → IsJudged (Refuses kind text W) (IsFound kind text W) (Ok (Some split))
planned_here kind k text W split is fit some plan =
    subst (λ (other : Kind). IsJudged (Refuses other text W) (IsFound other text W) (Ok (Some split))) (sym is)
    (fit, record { none = (λ none. cc, λ none. absurd (some none)); some = plan })

-- ---- parts that are given
pub read_few : (n : ℕ) (text : List ℕ) (parts : Vec Partition Global) → HasFewParts text → ArePartTexts n text parts.items → vec_len parts ≤ 256
read_few n text parts few texts = subst (λ (count : ℕ). count ≤ 256) (sym parts.ok.0) (few_partitions n text parts.items few texts).1

-- as many states as are asked for are those of the machine
pub assigned_here : (n : ℕ) (text : List ℕ) (W : KissFile) (parts : Vec Partition Global) (split : Split) → n ≡ length W.states → CallsForNone (BadParts n text) × ArePartTexts n text parts.items → split.kind ≡ Assign → split.parts ≡ given_parts (vec_len parts) 0 parts.items
    → length split.parts ≤ 256 → ((m : ℕ) → All (IsPartition m) parts.items → All (IsPart m) split.parts) → IsJudged (Refuses Assign text W) (IsPlanned Assign text W) (Ok split)
assigned_here n text W parts split count read kind are few lawful =
    let here : CallsForNone (BadParts (length W.states) text) × ArePartTexts (length W.states) text parts.items = subst (λ (m : ℕ). CallsForNone (BadParts m text) × ArePartTexts m text parts.items) count read in
    let same : split.parts ≡ given_parts (length parts.items) 0 parts.items = are ∙ ap (λ (size : ℕ). given_parts size 0 parts.items) parts.ok.0 in (
      here.0,
      record {
        same_kind = kind;
        few = few;
        lawful = lawful (length W.states) (parts_are_lawful (length W.states) text parts.items here.1);
        made = record { asked = record { partitions = parts.items; texts = here.1; are = same }; best = tt; choice = tt };
      },
    )
