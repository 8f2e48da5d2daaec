use Rattle.std.proofs.Common.{◌≡◌, ◌*◌, ◌≤◌, ℕ, List, length, refl, sym, subst, ◌∙◌, arith}
use Rattle.std.proofs.lemmas.List.{with_items_is}
use Rattle.partition.specs.Inner.Rows.{AreRowsOf}
use Rattle.partition.specs.Laws.Labels.{label-le}
use Rattle.partition.proofs.BlockRows.{zeros_read, rows_are, all_rows}
use Rattle.partition.proofs.bits.rows.block_rows.Goals as goal

pub number_rows-count-requires-clause-labels : goal.number_rows-count-requires-clause-labels
number_rows-count-requires-clause-labels c s within = omega (arith, label-le c.args.labels.now c.requires.numbered s within, c.requires.count.1, within)

pub number_rows-count-requires-clause-none : goal.number_rows-count-requires-clause-none
number_rows-count-requires-clause-none c label = zeros_read 256 label 0 refl

pub returns : goal.returns
returns c =
    let p : List ℕ = c.args.labels.now in
    let numbers : List ℕ = c.number_rows-count.new.numbers in
    let count : ℕ = c.number_rows-count.result in
    let new : List ℕ = c.put_states.new.rows in
    let width : ℕ = c.word_count-width.result in
    let size : length new ≡ count * width = c.put_states.ensures.length ∙ c.as_mut_slice.ensures.len ∙ c.in_ok-rows.ensures.len in
    let wide : length p ≤ 64 * width = omega (arith, c.word_count-width.ensures.count) in
    subst (AreRowsOf p) (sym (with_items_is c.in_ok-rows.rows new (c.put_states.ensures.length ∙ c.as_mut_slice.ensures.len)))
    (all_rows p new width count (rows_are p numbers new width count size wide c.number_rows-count.ensures c.put_states.ensures.bits) c.word_count-width.ensures.count c.requires.count.0)
