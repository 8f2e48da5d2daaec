use Rattle.std.proofs.Common.{◌-◌, ◌*◌, ◌+◌, ◌/◌, ◌<◌, ℕ, List, length, get_or, refl, sym, subst, ◌∙◌, arith}
use Rattle.partition.specs.Inner.Rows.{place_in}
use Rattle.partition.proofs.BlockRows.{ArePut, put_one, put_no, place_word, word_set}
use Rattle.partition.proofs.bits.rows.put_states.Goals as goal
use Rattle.partition.proofs.bits.rows.put_states.Goals.{then-number-ge2, else-number-ge2}

pub loop-s-preserved : goal.loop-s-preserved
loop-s-preserved c =
    let labels : List ℕ = c.args.labels.now in
    let numbers : List ℕ = c.args.numbers.now in
    let rows : List ℕ = c.loop-s.rows in
    let s : ℕ = c.loop-s.s in
    let width : ℕ = c.args.width in
    let row : ℕ = get_or numbers (get_or labels s 0) 0 - 2 in
    let inside : s < 64 * width = omega (arith, c.requires.states) in
    elim c.if-number-ge2.branch [
      | then-number-ge2 w ↦
          let room : place_in width row s / 64 < length rows = omega (arith, place_word width row s, c.requires.room s c.loop-s-test.true w.if-number-ge2.true, inside) in
          subst (λ (words : List ℕ). ArePut labels numbers words width (s + 1)) (sym (w.rows-is ∙ word_set rows width row s)) (put_one labels numbers rows width s (place_in width row s) c.loop-s.invariant inside w.if-number-ge2.true refl room)
      | else-number-ge2 w ↦ subst (λ (words : List ℕ). ArePut labels numbers words width (s + 1)) (sym w.rows-is) (put_no labels numbers rows width s c.loop-s.invariant w.if-number-ge2.false)
    ]
