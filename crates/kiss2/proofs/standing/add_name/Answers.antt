use Rattle.std.proofs.Common.{not, ap, sym, ◌∙◌}
use Rattle.kiss2.specs.Laws.Once.{put_once}
use Rattle.kiss2.proofs.standing.add_name.Goals as goal

pub returns-in_ok-add : goal.returns-in_ok-add
returns-in_ok-add c =
    put_once c.args.names.now c.add.new.self c.args.field.now c.in_ok-add.ensures.known c.in_ok-add.ensures.last (ap not (sym c.is_open_field.ensures) ∙ ap not c.if-not-is_open_field.true)
