use Rattle.std.proofs.Common.{◌∷◌, ◌++◌, [], List, ap, map, sym, take, ◌∙◌}
use Rattle.std.proofs.lemmas.List.{take_more}
use Rattle.kiss_file.specs.declared.file.KissRow.{KissRow}
use Rattle.part_machines.specs.PartRows.{numbers_of_row, rows_once}
use Rattle.part_rows.specs.Inner.Distinct.{with_row}
use Rattle.part_rows.proofs.EqualRows.{once_more, once_none}
use Rattle.part_rows.proofs.distinct.rows_once.Goals as goal

pub loop-row-init : goal.loop-row-init
loop-row-init c = record {
  seen = c.new-seen.ensures.empty ∙ ap (map numbers_of_row) (sym c.new-once.ensures.items);
  once = c.new-once.ensures.items ∙ once_none;
}

pub loop-row-preserved : goal.loop-row-preserved
loop-row-preserved c =
    let rows : List KissRow = c.args.rows.now in
    let k = c.loop-row.row-index in
    let row : KissRow = c.row-item.result in
    record {
      seen = c.in_ok-add_once.ensures.seen;
      once =
          c.in_ok-add_once.ensures.once ∙ ap (λ (list : List KissRow). with_row list row) c.loop-row.invariant.once ∙ sym (once_more (take k rows) row)
          ∙ ap rows_once (sym (take_more rows k row c.loop-row-test.true ∙ ap (λ (r : KissRow). take k rows ++ r ∷ []) (sym c.row-item.is)));
    }
