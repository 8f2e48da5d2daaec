use Rattle.std.proofs.Common.{◌<◌, ◌∙◌, All, length, sym, subst}
use Rattle.part_texts.proofs.Naming.{own_low}
use Rattle.part_texts.proofs.part_names.output_names.Goals as goal

pub listed_names-requires-clause-latches : goal.listed_names-requires-clause-latches
listed_names-requires-clause-latches c =
    subst (All (λ d. d < length c.args.names.now.latch_outputs)) (sym (c.deref.ensures.value ∙ c.in_ok-own-in-Part.ensures)) (own_low c.args.codes.now c.in-Part.part (length c.args.names.now.latch_outputs) c.requires.bits)
