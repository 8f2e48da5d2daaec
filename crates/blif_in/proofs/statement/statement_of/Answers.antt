use Rattle.std.proofs.Common.{sym, ap, subst, ◌∙◌}
use Rattle.net_core.specs.Statements.{statement_of}
use Rattle.blif_in.specs.Inner.ShortFields.{AreMeasurable}
use Rattle.blif_in.proofs.Names.{first_and_rest}
use Rattle.blif_in.proofs.statement.statement_of.Goals as goal

pub statement_by-requires : goal.statement_by-requires
statement_by-requires c = first_and_rest c.as_slice-fields.result.now c.bytes.result.now c.word-item.result c.in-len1-up.len_at_least c.bytes.ensures c.word-item.is

pub returns-in-len1-up-clause-says : goal.returns-in-len1-up-clause-says
returns-in-len1-up-clause-says c =
    c.statement_by.ensures.says
    ∙ ap statement_of (sym (first_and_rest c.as_slice-fields.result.now c.bytes.result.now c.word-item.result c.in-len1-up.len_at_least c.bytes.ensures c.word-item.is) ∙ c.as_slice-fields.ensures)

pub returns-in-len1-up-clause-measurable : goal.returns-in-len1-up-clause-measurable
returns-in-len1-up-clause-measurable c measurable =
    c.statement_by.ensures.measurable
    (subst AreMeasurable (sym c.as_slice-fields.ensures ∙ first_and_rest c.as_slice-fields.result.now c.bytes.result.now c.word-item.result c.in-len1-up.len_at_least c.bytes.ensures c.word-item.is) measurable)
