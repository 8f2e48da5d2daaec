use Rattle.std.proofs.Common.{◌+◌, ◌<◌, ℕ, List, length, set, arith}
use Rattle.std.proofs.lemmas.List.{get_or-set_same}
use Rattle.partition.proofs.Gathering.{number_more, number_kept, numbers_few, numbers_row}
use Rattle.partition.proofs.bits.joined_rows.number_labels.Goals as goal
use Rattle.partition.proofs.bits.joined_rows.number_labels.Goals.{then-numbers-label-eq0, else-numbers-label-eq0}

pub overflow_add-count : goal.overflow_add-count
overflow_add-count c = omega (arith, numbers_few c.args.labels.now c.loop-i.numbers c.loop-i.count c.loop-i.invariant.numbered, c.requires.room)

pub loop-i-preserved : goal.loop-i-preserved
loop-i-preserved c =
    let p : List ℕ = c.args.labels.now in
    let rows : List ℕ = c.args.rows.now in
    let numbers : List ℕ = c.loop-i.numbers in
    let count : ℕ = c.loop-i.count in
    let label : ℕ = c.label_of_row-label.result in
    let so_far = c.loop-i.invariant in
    let labelled = c.label_of_row-label.ensures.label in
    let two = c.label_of_row-label.ensures.two in
    let room : label < length numbers = omega (arith, two.first, c.requires.labels two.one (omega (arith, two.apart, two.within))) in
    elim c.if-numbers-label-eq0.branch [
      | then-numbers-label-eq0 w ↦ rw (w.numbers-is, w.count-is) record {
        numbered = number_more p numbers count label so_far.numbered room w.if-numbers-label-eq0.true two;
        all = numbers_row p rows c.args.width c.loop-i.i numbers (set numbers label (count + 1)) label so_far.all (λ a some. number_kept numbers label count a room some) labelled (omega (arith, get_or-set_same numbers label (count + 1) 0 room));
        kept = λ a some. number_kept numbers label count a room (so_far.kept a some);
      }
      | else-numbers-label-eq0 w ↦ rw (w.numbers-is, w.count-is) record {
        numbered = so_far.numbered;
        all = numbers_row p rows c.args.width c.loop-i.i numbers numbers label so_far.all (λ a some. some) labelled (omega (arith, w.if-numbers-label-eq0.false));
        kept = so_far.kept;
      }
    ]
