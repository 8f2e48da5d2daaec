use Rattle.std.proofs.Common.{◌≡◌, ◌+◌, ◌++◌, [], ◌∷◌, length, take, sym, ◌∙◌, ap, subst, arith}
use Rattle.std.proofs.lemmas.List.{take_more}
use Rattle.kiss2.specs.Inner.ReaderState.{once_after}
use Rattle.kiss2.specs.Standing.{names_in_column}
use Rattle.kiss2.specs.Laws.Building.{column_few, row_added}
use Rattle.kiss2.proofs.record.add_column.Goals as goal

pub field_of-requires : goal.field_of-requires
field_of-requires c =
    let four : length c.line-item.result.fields ≡ 4 = subst (λ line. length line.fields ≡ 4) (sym c.line-item.is) (c.requires.long c.loop-line.line-index c.line-item.result c.loop-line-test.true) in
    omega arith

pub add_name-requires : goal.add_name-requires
add_name-requires c = omega (arith, ap length c.loop-line.invariant, column_few c.args.place c.args.names.now c.args.lines.now c.loop-line.line-index)

pub loop-line-preserved : goal.loop-line-preserved
loop-line-preserved c =
    let names = c.args.names.now in
    let lines = c.args.lines.now in
    let place = c.args.place in
    let i = c.loop-line.line-index in
    let line = c.line-item.result in
    let more : take (i + 1) lines ≡ take i lines ++ line ∷ [] = take_more lines i line c.loop-line-test.true ∙ ap (λ l. take i lines ++ l ∷ []) (sym c.line-item.is) in
    row_added place names c.loop-line.names _ (take i lines) line _ c.loop-line.invariant c.field_of.ensures c.in_ok-add_name.ensures
    ∙ ap (λ rows. once_after names (names_in_column place rows)) (sym more)
