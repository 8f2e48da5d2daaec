use Rattle.std.proofs.Common.{Err, ap, ◌∙◌}
use Rattle.partition.proofs.Refused.{never_refused}
use Rattle.partition.proofs.Partition.of_lawful.Goals as goal

pub unreachable-requires : goal.unreachable-requires
unreachable-requires c =
    never_refused _ _ c.from_labels.result _ c.requires (λ e. cc)
    (c.in-Err-Empty.is ∙ ap Err c.in-Err-Empty.field-0-is) c.from_labels.ensures.refused

pub unreachable-requires-in-Err-NotCanonical : goal.unreachable-requires-in-Err-NotCanonical
unreachable-requires-in-Err-NotCanonical c =
    never_refused _ _ c.from_labels.result _ c.requires (λ e. cc)
    (c.in-Err-NotCanonical.is ∙ ap Err c.in-Err-NotCanonical.field-0-is) c.from_labels.ensures.refused

pub unreachable-requires-in-Err-BadText : goal.unreachable-requires-in-Err-BadText
unreachable-requires-in-Err-BadText c =
    never_refused _ _ c.from_labels.result _ c.requires (λ e. cc)
    (c.in-Err-BadText.is ∙ ap Err c.in-Err-BadText.field-0-is) c.from_labels.ensures.refused

pub unreachable-requires-in-Err-WrongLength : goal.unreachable-requires-in-Err-WrongLength
unreachable-requires-in-Err-WrongLength c =
    never_refused _ _ c.from_labels.result _ c.requires (λ e. cc)
    (c.in-Err-WrongLength.is ∙ ap Err c.in-Err-WrongLength.field-0-is) c.from_labels.ensures.refused
