use Rattle.std.proofs.Common.{◌≡◌, ◌∷◌, [], ◌++◌, false, refl, rules}
use Rattle.std.proofs.lemmas.Result.{on_ok_weaker, IfOk-from_err}
use Rattle.cover_logic.specs.declared.index.Node.{Node}
use Rattle.cover_logic.proofs.Nodes.{added_hull, added_parts}
use Rattle.cover_logic.proofs.index.+add.Goals as goal

pub add-returns : goal.add-returns
add-returns t c =
    let below = c.add_parts.new.nodes.items in
    let node : Node = record { term = c.hull-term.result; from = c.len-from.result; is_listed = false } in
    let pushed : c.push.new.self.items ≡ below ++ node ∷ [] = c.in_ok-push.ensures.items in
    rw pushed (added_hull c.args.nodes.now.items below c.args.terms.now node c.in_ok-add_parts.ensures refl (search rules) c.hull-term.ensures)

pub add_parts-returns : goal.add_parts-returns
add_parts-returns t c =
    on_ok_weaker c.add_part-3.result
    (λ last. added_parts c.args.nodes.now.items _ _ _ c.args.terms.now _ _ _ c.best_column-column.result refl refl refl c.in_ok-add_part.ensures c.in_ok-add_part-2.ensures last)
    c.add_part-3.ensures

pub add-add_parts-requires : goal.add-add_parts-requires
add-add_parts-requires t c = (search rules, (c.requires.width, c.requires.nested))

pub add_part-add-requires : goal.add_part-add-requires
add_part-add-requires t c = (search rules, (c.requires.width, c.requires.nested))

pub add_parts-best_column-column-requires : goal.add_parts-best_column-column-requires
add_parts-best_column-column-requires t c = c.requires.width

pub add_parts-add_each-requires : goal.add_parts-add_each-requires
add_parts-add_each-requires t c = c.requires.nested

pub add_parts-returns-then-depth-eq0 : goal.add_parts-returns-then-depth-eq0
add_parts-returns-then-depth-eq0 t c = c.add_each.ensures

pub add_parts-add_part-requires : goal.add_parts-add_part-requires
add_parts-add_part-requires t c = (search rules, (c.requires.width, c.requires.nested))

pub add_parts-add_part-requires-2 : goal.add_parts-add_part-requires-2
add_parts-add_part-requires-2 t c = (search rules, (c.requires.width, c.in_ok-add_part.ensures.nested))

pub add_parts-add_part-requires-3 : goal.add_parts-add_part-requires-3
add_parts-add_part-requires-3 t c = (search rules, (c.requires.width, c.in_ok-add_part-2.ensures.nested))

pub add-returns-in_err-add_parts : goal.add-returns-in_err-add_parts
add-returns-in_err-add_parts t c = IfOk-from_err c.from_residual.result _ c.from_residual.ensures.0

pub add-returns-in_err-push : goal.add-returns-in_err-push
add-returns-in_err-push t c = IfOk-from_err c.from_residual-in_err-push.result _ c.from_residual-in_err-push.ensures.0

pub add_part-returns-in_err-part : goal.add_part-returns-in_err-part
add_part-returns-in_err-part t c = IfOk-from_err c.from_residual.result _ c.from_residual.ensures.0

pub add_parts-returns-in_err-add_part : goal.add_parts-returns-in_err-add_part
add_parts-returns-in_err-add_part t c = IfOk-from_err c.from_residual.result _ c.from_residual.ensures.0

pub add_parts-returns-in_err-add_part-2 : goal.add_parts-returns-in_err-add_part-2
add_parts-returns-in_err-add_part-2 t c = IfOk-from_err c.from_residual-in_err-add_part-2.result _ c.from_residual-in_err-add_part-2.ensures.0
