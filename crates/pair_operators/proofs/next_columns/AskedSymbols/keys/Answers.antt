use Rattle.std.proofs.Common.{◌≡◌, ◌∙◌, All, List, get_or, ap, sym, subst, arith}
use Rattle.pair_operators.specs.NextColumns.{IsNextColumn}
use Rattle.pair_operators.specs.declared.next_columns.NextColumn.{NextColumn}
use Rattle.pair_operators.proofs.Asking.{keys_after}
use Rattle.pair_operators.proofs.next_columns.AskedSymbols.keys.Goals as goal

pub loop-column-init : goal.loop-column-init
loop-column-init c = c.in_ok-keys.ensures c.args.m.now c.args.q.now (sym c.states.ensures.count)

pub loop-column-preserved : goal.loop-column-preserved
loop-column-preserved c =
    let column = c.column-item.result in
    let place = c.loop-column.column-index in
    let here : column ≡ get_or c.self.inside.columns.items place column = c.column-item.is ∙ ap (λ (list : List NextColumn). get_or list place column) c.deref-column-items.ensures.value in
    let known : All (IsNextColumn c.args.m.now) c.self.inside.columns.items = subst (All (IsNextColumn c.args.m.now)) (sym c.self.view_is) c.requires.asked in
    let right = subst (IsNextColumn c.args.m.now) (sym here) (known place column (omega (arith, c.loop-column-test.true, c.deref-column-items.ensures.len))) in
    keys_after c.args.m.now c.args.q.now column c.loop-column.keys c.in_ok-keys-2.keys right c.loop-column.invariant c.in_ok-keys-2.ensures
