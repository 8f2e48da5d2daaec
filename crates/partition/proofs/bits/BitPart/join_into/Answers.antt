use Rattle.std.proofs.Common.{◌≡◌, ◌*◌, ◌≤◌, ℕ, List, length, refl, sym, ap, subst, ◌∙◌, arith}
use Rattle.partition.specs.Inner.Rows.{AreRows, AreRowsOf}
use Rattle.partition.proofs.BlockRows.{in_hand, row_states}
use Rattle.partition.proofs.JoinedStates.{IsJoiningRows, rows_first, rows_step, rows_all, row_within, kept_both}
use Rattle.partition.proofs.bits.BitPart.join_into.Goals as goal

pub loop-i-init : goal.loop-i-init
loop-i-init c = record { joining = rows_first c.args.partition.now c.args.self.now c.as_slice-rows.result.now c.word_count-width.result c.requires.lawful; kept = refl }

pub join_states-changed-requires-clause-states : goal.join_states-changed-requires-clause-states
join_states-changed-requires-clause-states c t on =
    let q : List ℕ = c.args.self.now in
    let rows : List ℕ = c.as_slice-rows.result.now in
    let width : ℕ = c.word_count-width.result in
    let of_q : AreRowsOf q c.self.inside.rows.items = rw (← c.self.view_is) c.self.invariant.1 in
    let number : c.len.result ≡ length q = c.len.ensures.len ∙ ap length c.self.view_is in
    let are : AreRows q rows width c.row_count-i-end.result = in_hand q c.self.inside.rows.items rows c.len.result width c.row_count-i-end.result of_q c.as_slice-rows.ensures.value number c.word_count-width.ensures.count c.row_count-i-end.ensures in
    let states = row_states rows c.of-states.result width c.loop-i.i (c.loop-i.i * width) c.word_count-width.ensures.few refl c.of-states.ensures in
    omega (arith, row_within q rows width c.row_count-i-end.result c.loop-i.i c.of-states.result are c.loop-i-test.true states.0 states.1 t on, c.requires.length, c.loop-i.invariant.joining.lawful.length)

pub loop-i-preserved : goal.loop-i-preserved
loop-i-preserved c =
    let p : List ℕ = c.args.partition.now in
    let q : List ℕ = c.args.self.now in
    let rows : List ℕ = c.as_slice-rows.result.now in
    let width : ℕ = c.word_count-width.result in
    let of_q : AreRowsOf q c.self.inside.rows.items = rw (← c.self.view_is) c.self.invariant.1 in
    let number : c.len.result ≡ length q = c.len.ensures.len ∙ ap length c.self.view_is in
    let are : AreRows q rows width c.row_count-i-end.result = in_hand q c.self.inside.rows.items rows c.len.result width c.row_count-i-end.result of_q c.as_slice-rows.ensures.value number c.word_count-width.ensures.count c.row_count-i-end.ensures in
    let wide : length q ≤ 64 * width = omega (arith, number, c.word_count-width.ensures.count) in
    let states = row_states rows c.of-states.result width c.loop-i.i (c.loop-i.i * width) c.word_count-width.ensures.few refl c.of-states.ensures in
    record {
      joining = rows_step p q rows width c.row_count-i-end.result c.loop-i.i c.of-states.result c.loop-i.partition c.join_states-changed.new.partition (sym c.requires.length) wide are c.loop-i-test.true states.0 states.1 c.loop-i.invariant.joining c.join_states-changed.ensures.joined;
      kept = kept_both c.loop-i.changed c.join_states-changed.result p c.loop-i.partition c.join_states-changed.new.partition c.loop-i.invariant.kept c.join_states-changed.ensures.kept;
    }

pub returns-clause-join : goal.returns-clause-join
returns-clause-join c =
    let p : List ℕ = c.args.partition.now in
    let q : List ℕ = c.args.self.now in
    let rows : List ℕ = c.as_slice-rows.result.now in
    let width : ℕ = c.word_count-width.result in
    let of_q : AreRowsOf q c.self.inside.rows.items = rw (← c.self.view_is) c.self.invariant.1 in
    let number : c.len.result ≡ length q = c.len.ensures.len ∙ ap length c.self.view_is in
    let are : AreRows q rows width c.row_count-i-end.result = in_hand q c.self.inside.rows.items rows c.len.result width c.row_count-i-end.result of_q c.as_slice-rows.ensures.value number c.word_count-width.ensures.count c.row_count-i-end.ensures in
    let wide : length q ≤ 64 * width = omega (arith, number, c.word_count-width.ensures.count) in
    let end : c.loop-i.i ≡ c.row_count-i-end.result = omega arith in
    rows_all p q rows width c.row_count-i-end.result c.loop-i.partition (sym c.requires.length) wide are (subst (λ (k : ℕ). IsJoiningRows p q rows width k c.loop-i.partition) end c.loop-i.invariant.joining)
