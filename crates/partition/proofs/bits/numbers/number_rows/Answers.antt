use Rattle.std.proofs.Common.{ℕ, List, arith}
use Rattle.partition.proofs.BlockRows.{numbers_first, numbers_second, numbers_later}
use Rattle.partition.proofs.bits.numbers.number_rows.Goals as goal
use Rattle.partition.proofs.bits.numbers.number_rows.Goals.{then-number-eq0, else-number-eq0+then-number-eq1, else-number-eq0+else-number-eq1}

pub loop-label-preserved : goal.loop-label-preserved
loop-label-preserved c =
    let p : List ℕ = c.args.labels.now in
    let numbers : List ℕ = c.loop-label.numbers in
    let s : ℕ = c.loop-label.label-index in
    elim c.if-number-eq0.branch [
      | then-number-eq0 w ↦ rw (w.numbers-is, w.count-is) (numbers_first p numbers c.loop-label.count s c.loop-label.invariant (omega (arith, c.requires.labels s c.loop-label-test.true)) w.if-number-eq0.true)
      | else-number-eq0+then-number-eq1 w ↦ rw (w.numbers-is, w.count-is) (numbers_second p numbers c.loop-label.count s c.loop-label.invariant (omega (arith, c.requires.labels s c.loop-label-test.true)) w.if-number-eq1.true)
      | else-number-eq0+else-number-eq1 w ↦ rw (w.numbers-is, w.count-is) (numbers_later p numbers c.loop-label.count s c.loop-label.invariant w.if-number-eq0.false w.if-number-eq1.false)
    ]
