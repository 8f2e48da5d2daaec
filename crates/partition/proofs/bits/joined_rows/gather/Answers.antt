use Rattle.std.proofs.Common.{◌+◌, ◌-◌, ◌*◌, ◌/◌, ◌<◌, ◌≤◌, ℕ, List, length, get_or, take, drop, refl, arith}
use Rattle.partition.proofs.BlockRows.{row_end, row_slice}
use Rattle.partition.proofs.Gathering.{row_numbered, number_end, slice_size, gathered_more}
use Rattle.partition.proofs.bits.joined_rows.gather.Goals as goal

pub overflow_sub-row : goal.overflow_sub-row
overflow_sub-row c =
    let within : c.loop-i.i < length c.args.rows.now / c.args.width = omega (arith, c.loop-i-test.true, c.row_count-i-end.ensures) in
    row_numbered c.args.labels.now c.args.rows.now c.args.numbers.now c.args.width (length c.args.rows.now / c.args.width) c.loop-i.i c.label_of_row-label.result c.requires.rows c.requires.numbered c.requires.states within c.label_of_row-label.ensures.label

pub put_row-requires : goal.put_row-requires
put_row-requires c =
    let rows : List ℕ = c.args.rows.now in
    let numbers : List ℕ = c.args.numbers.now in
    let width : ℕ = c.args.width in
    let i : ℕ = c.loop-i.i in
    let label : ℕ = c.label_of_row-label.result in
    let within : i < length rows / width = omega (arith, c.loop-i-test.true, c.row_count-i-end.ensures) in
    let some : 1 ≤ get_or numbers label 0 = row_numbered c.args.labels.now rows numbers width (length rows / width) i label c.requires.rows c.requires.numbered c.requires.states within c.label_of_row-label.ensures.label in
    let size = slice_size rows width (i * width) (omega (arith, row_end i (length rows / width) width within, c.requires.rows.size)) in
    omega (arith, size, number_end (get_or numbers label 0) (get_or numbers label 0 - 1) width (length c.loop-i.into) (omega (arith, some)) (omega (arith, c.requires.room label)))

pub loop-i-preserved : goal.loop-i-preserved
loop-i-preserved c =
    let rows : List ℕ = c.args.rows.now in
    let numbers : List ℕ = c.args.numbers.now in
    let width : ℕ = c.args.width in
    let i : ℕ = c.loop-i.i in
    let label : ℕ = c.label_of_row-label.result in
    let number : ℕ = get_or numbers label 0 - 1 in
    let row : List ℕ = take (i * width + width - i * width) (drop (i * width) rows) in
    let within : i < length rows / width = omega (arith, c.loop-i-test.true, c.row_count-i-end.ensures) in
    let some : 1 ≤ get_or numbers label 0 = row_numbered c.args.labels.now rows numbers width (length rows / width) i label c.requires.rows c.requires.numbered c.requires.states within c.label_of_row-label.ensures.label in
    let size = slice_size rows width (i * width) (omega (arith, row_end i (length rows / width) width within, c.requires.rows.size)) in
    gathered_more c.args.labels.now rows numbers c.args.into.now c.loop-i.into c.put_row.new.words row width i number (number * width) label c.loop-i.invariant c.label_of_row-label.ensures.label
    (omega (arith, some)) refl size (λ t inside. row_slice rows width i (i * width) t refl inside) c.put_row.ensures.within c.put_row.ensures.others
