use Rattle.std.proofs.Common.{ℕ, eqb, false, List, ◌++◌, length, map, sym, ◌∙◌, ap}
use Rattle.std.specs.List.{filter_map, list_any, range_with_len}
use Rattle.kiss_file.specs.declared.file.KissRow.{KissRow}
use Rattle.std.specs.Prelude.{count_by, replicate}
use Rattle.kiss2.proofs.writer.count_states.Goals as goal

pub count_standing-requires : goal.count_standing-requires
count_standing-requires c =
    let items = c.deref_mut.ensures.value ∙ c.in_ok-standing.ensures.items_if_clones_equal (λ y e. e) in
    let long = c.deref_mut.ensures.len ∙ c.in_ok-standing.ensures.len in
    items ∙ ap (λ n. replicate n false) (sym long)

pub returns : goal.returns
returns c =
    let count = λ (rows : List KissRow) (n : ℕ). count_by (λ s. list_any (λ t. eqb t s) (map (λ row. row.from) rows ++ filter_map (λ row. row.to) rows)) (range_with_len 0 n) in
    c.count_standing.ensures
    ∙ (ap (λ rows. count rows (length c.deref_mut.result.now)) c.as_slice.ensures
    ∙ ap (count c.args.file.now.rows) (c.deref_mut.ensures.len ∙ (c.in_ok-standing.ensures.len ∙ c.count.ensures.count)))
