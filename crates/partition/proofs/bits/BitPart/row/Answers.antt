use Rattle.std.proofs.Common.{◌≡◌, ◌*◌, ◌≤◌, ℕ, List, length, ap, ◌∙◌, arith}
use Rattle.partition.specs.Inner.Rows.{AreRows, AreRowsOf}
use Rattle.partition.proofs.BlockRows.{in_hand, row_block, row_above, row_none}
use Rattle.partition.proofs.bits.BitPart.row.Goals as goal

pub returns-then-at-rows-clause-together : goal.returns-then-at-rows-clause-together
returns-then-at-rows-clause-together c t =
    let p : List ℕ = c.args.self.now in
    let rows : List ℕ = c.as_slice-rows.result.now in
    let width : ℕ = c.word_count-width.result in
    let of_p : AreRowsOf p c.self.inside.rows.items = rw (← c.self.view_is) c.self.invariant.1 in
    let states : c.len.result ≡ length p = c.len.ensures.len ∙ ap length c.self.view_is in
    let are : AreRows p rows width c.row_count.result = in_hand p c.self.inside.rows.items rows c.len.result width c.row_count.result of_p c.as_slice-rows.ensures.value states c.word_count-width.ensures.count c.row_count.ensures in
    let wide : length p ≤ 64 * width = omega (arith, states, c.word_count-width.ensures.count) in
    let found = c.row_with-at.ensures.found c.if-at-rows.true in
    row_block p rows width c.row_count.result found.0 c.args.s c.row_with-at.result t are wide c.requires found.1 found.2 found.3

pub returns-then-at-rows-clause-above : goal.returns-then-at-rows-clause-above
returns-then-at-rows-clause-above c t above =
    let p : List ℕ = c.args.self.now in
    let rows : List ℕ = c.as_slice-rows.result.now in
    let width : ℕ = c.word_count-width.result in
    let of_p : AreRowsOf p c.self.inside.rows.items = rw (← c.self.view_is) c.self.invariant.1 in
    let states : c.len.result ≡ length p = c.len.ensures.len ∙ ap length c.self.view_is in
    let are : AreRows p rows width c.row_count.result = in_hand p c.self.inside.rows.items rows c.len.result width c.row_count.result of_p c.as_slice-rows.ensures.value states c.word_count-width.ensures.count c.row_count.ensures in
    let wide : length p ≤ 64 * width = omega (arith, states, c.word_count-width.ensures.count) in
    let found = c.row_with-at.ensures.found c.if-at-rows.true in
    row_above p rows width c.row_count.result found.0 c.args.s c.row_with-at.result t are wide c.requires found.1 found.2 found.3 above

pub returns-else-at-rows-clause-together : goal.returns-else-at-rows-clause-together
returns-else-at-rows-clause-together c t =
    let p : List ℕ = c.args.self.now in
    let rows : List ℕ = c.as_slice-rows.result.now in
    let width : ℕ = c.word_count-width.result in
    let of_p : AreRowsOf p c.self.inside.rows.items = rw (← c.self.view_is) c.self.invariant.1 in
    let states : c.len.result ≡ length p = c.len.ensures.len ∙ ap length c.self.view_is in
    let are : AreRows p rows width c.row_count.result = in_hand p c.self.inside.rows.items rows c.len.result width c.row_count.result of_p c.as_slice-rows.ensures.value states c.word_count-width.ensures.count c.row_count.ensures in
    row_none p rows c.single_row.result.now width c.row_count.result c.args.s t are c.requires (c.row_with-at.ensures.none c.if-at-rows.false) (c.single_row.ensures.single t)
