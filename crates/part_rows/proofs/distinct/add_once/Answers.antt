use Rattle.std.proofs.Common.{◌∙◌}
use Rattle.part_rows.proofs.EqualRows.{known_row, new_row}
use Rattle.part_rows.proofs.distinct.add_once.Goals as goal

pub returns-in_ok-push-clause-once : goal.returns-in_ok-push-clause-once
returns-in_ok-push-clause-once c =
    c.in_ok-push.ensures.items
    ∙ new_row c.args.once.now.items c.args.row.now c.args.seen.now.keys c.numbers_of.result c.in_ok-is_new.is_new c.requires c.numbers_of.ensures c.in_ok-is_new.ensures.added c.if-is_new.true

pub returns-else-is_new-clause-once : goal.returns-else-is_new-clause-once
returns-else-is_new-clause-once c =
    known_row c.args.once.now.items c.args.row.now c.args.seen.now.keys c.numbers_of.result c.in_ok-is_new.is_new c.requires c.numbers_of.ensures c.in_ok-is_new.ensures.added c.if-is_new.false
