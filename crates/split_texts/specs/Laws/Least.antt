-- Laws of the least code: what is refused for it, and what its gates read.
use Rattle.std.proofs.Common.{◌≤◌, inl, inr, List, length, refl, ap, ◌∙◌, arith}
use Rattle.std.proofs.lemmas.Bool.{cases_lt}
use Rattle.list_facts.specs.Laws.Places.{item_at}
use Rattle.answers.specs.declared.numbers.Answer.TheVariants as answers
use Rattle.answers.specs.declared.refusals.Refusal.TheVariants.{StateCount}
use Rattle.answers.specs.Cause.{CallsForNone}
use Rattle.answers.specs.Laws.Causes.{IsOf}
use Rattle.answers.specs.Refusal.{answer_of}
use Rattle.kiss_file.specs.declared.file.KissFile.{KissFile}
use Rattle.least_codes.specs.Laws.Chosen.{given_codes_are_least}
use Rattle.least_codes.proofs.Gates.{least_code_reads_least}
use Rattle.least_codes.specs.Gates.{EachReadsLeast}
use Rattle.least_codes.specs.Kind.{GiveLeastCode, IsLeastSplit}
use Rattle.net_core.specs.declared.Network.{Network}
use Rattle.state_codes.specs.declared.Codes.{Codes}
use Rattle.state_codes.specs.declared.split.Part.{Part}
use Rattle.state_codes.specs.Code.{IsCode}
use Rattle.state_codes.specs.Laws.Codes.{codes_are_one}
use Rattle.split_texts.specs.Inner.RuleReads.{ReadByRule}
use Rattle.split_texts.specs.LeastNetwork.{HasOtherCount, IsLeastNetwork}

pub other_count_is_of : (W : KissFile) → IsOf answers.StateCount (HasOtherCount W)
other_count_is_of W refusal (is, count) = ap answer_of is

-- a machine that is not refused has 3 to 8 states
pub count_fits : (W : KissFile) → CallsForNone (HasOtherCount W) → (3 ≤ length W.states) × (length W.states ≤ 8)
count_fits W fit = (
  elim (cases_lt (length W.states) 3) [ inl few ↦ absurd (fit (StateCount (length W.states)) (refl, inl few)) | inr some ↦ omega (arith, some) ],
  elim (cases_lt 8 (length W.states)) [ inl many ↦ absurd (fit (StateCount (length W.states)) (refl, inr many)) | inr most ↦ omega (arith, most) ],
)

-- the rule gives least read sets to the gates of the least code
pub least_kept : (W : KissFile) (parts : List Part) (codes : Codes) (N : Network) → CallsForNone (HasOtherCount W) → IsLeastSplit parts → GiveLeastCode W parts → IsCode (length W.states) parts codes → ReadByRule W parts codes N → IsLeastNetwork W codes N
least_kept W parts codes N fit split give code read = record {
  code = given_codes_are_least W parts codes give code;
  size = ap (λ (one : Codes). one.bits) (codes_are_one (length W.states) parts codes give.codes code give.given) ∙ give.size;
  latches = λ i gate below at.
      let set = item_at read.sets.latches i (omega (arith, below, read.by_rule.latch_count)) in
      record { bits = set.0.latches; reads = read.latches i set.0 set.1 gate at; least = least.latches i set.0 set.1 };
  outputs = λ b gate below at.
      let set = item_at read.sets.outputs b (omega (arith, below, read.by_rule.output_count)) in
      record { bits = set.0.latches; reads = read.outputs b set.0 set.1 gate at; least = least.outputs b set.0 set.1 };
} where
  count : (3 ≤ length W.states) × (length W.states ≤ 8)
  count = count_fits W fit

  least : EachReadsLeast W codes read.sets
  least = least_code_reads_least W parts codes read.sets count.0 count.1 split give code read.by_rule
