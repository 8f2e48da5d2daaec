use Rattle.std.proofs.Common.{◌∙◌, sym, ap}
use Rattle.part_texts.proofs.LongNames.{found_first, found_later, long_bytes}
use Rattle.part_texts.proofs.part_names.first_long.Goals as goal

pub returns-in-Some : goal.returns-in-Some
returns-in-Some c =
    found_first c.args.names.now.inputs c.args.names.now.outputs c.in-Some.bytes (sym c.in-Some.is ∙ c.long_among.ensures ∙ ap long_bytes c.as_slice.ensures)

pub returns-in-None : goal.returns-in-None
returns-in-None c =
    c.long_among-in-None.ensures ∙ ap long_bytes c.as_slice-in-None.ensures
    ∙ found_later c.args.names.now.inputs c.args.names.now.outputs (sym c.in-None.is ∙ c.long_among.ensures ∙ ap long_bytes c.as_slice.ensures)
