use Rattle.std.proofs.Common.{◌∙◌, All, subst, sym}
use Rattle.std.proofs.lemmas.List.Elements.{All-push, All-same}
use Rattle.std.proofs.lemmas.Result.{IfOk-from_err, err_from_is_err_and}
use Rattle.pair_operators.specs.NextColumns.{IsNextColumn}
use Rattle.pair_operators.proofs.Asking.{inside_labels, keys_after}
use Rattle.pair_operators.proofs.next_columns.AskedSymbols.learn.Goals as goal

pub column_at-requires : goal.column_at-requires
column_at-requires c = c.in-Some.ensures

pub after-requires-clause-size : goal.after-requires-clause-size
after-requires-clause-size c = c.requires.keys.size ∙ sym c.in_ok-column.ensures.size

pub after-requires-clause-inside : goal.after-requires-clause-inside
after-requires-clause-inside c = inside_labels c.args.m.now c.args.q.now c.in_ok-column.column c.requires.states c.in_ok-column.ensures

pub returns-in_default-clause-asked : goal.returns-in_default-clause-asked
returns-in_default-clause-asked c = c.requires.asked

pub returns-then-len-ge-MOST_ASKED-clause-asked : goal.returns-then-len-ge-MOST_ASKED-clause-asked
returns-then-len-ge-MOST_ASKED-clause-asked c = c.requires.asked

pub returns-in_err-column-clause-asked : goal.returns-in_err-column-clause-asked
returns-in_err-column-clause-asked c = let p = err_from_is_err_and c.from_residual.result c.from_residual.ensures.1 in rw p.1 tt

pub returns-in_err-more-clause-asked : goal.returns-in_err-more-clause-asked
returns-in_err-more-clause-asked c = let p = err_from_is_err_and c.from_residual-in_err-more.result c.from_residual-in_err-more.ensures.1 in rw p.1 tt

pub returns-in_err-push-clause-asked : goal.returns-in_err-push-clause-asked
returns-in_err-push-clause-asked c = let p = err_from_is_err_and c.from_residual-in_err-push.result c.from_residual-in_err-push.ensures.1 in rw p.1 tt

pub returns-in_err-push-clause-keys : goal.returns-in_err-push-clause-keys
returns-in_err-push-clause-keys c = IfOk-from_err _ _ c.from_residual-in_err-push.ensures.0

pub returns-clause-asked : goal.returns-clause-asked
returns-clause-asked c =
    let known : All (IsNextColumn c.args.m.now) c.self.inside.columns.items = subst (All (IsNextColumn c.args.m.now)) (sym c.self.view_is) c.requires.asked in
    All-same (IsNextColumn c.args.m.now) _ _ c.in_ok-push.ensures.items (All-push (IsNextColumn c.args.m.now) c.self.inside.columns.items c.in_ok-column.column known c.in_ok-column.ensures)

pub returns-clause-keys : goal.returns-clause-keys
returns-clause-keys c = keys_after c.args.m.now c.args.q.now c.in_ok-column.column c.args.keys c.in_ok-more.more c.in_ok-column.ensures c.requires.keys c.in_ok-more.ensures
