use Rattle.std.proofs.Common.{ℕ, ◌≡◌, ◌-◌, ◌^◌, Bool, false, IsNone, None, Option, bit_or, get_or, refl, sym, ◌∙◌, ap, subst, arith}
use Rattle.std.proofs.lemmas.Bool.{true≢false}
use Rattle.std.proofs.lemmas.List.Elements.{Contains-get_or}
use Rattle.cubes.specs.Cube.{HoldsNumber}
use Rattle.cubes.specs.Symbol.{bit, symbol_of}
use Rattle.kiss_file.specs.declared.file.KissRow.{KissRow}
use Rattle.kiss_file.specs.Machine.{given_bit}
use Rattle.kiss_file.specs.Laws.Machine.{output_bit_not_said}
use Rattle.state_pairs.specs.Laws.Asking.{is_row_at, looked_at, of_each_row}
use Rattle.machine_table.specs.Inner.Gathered.{IsGathered}
use Rattle.machine_table.proofs.GatheredOutputs.{all_known, gathered_below, gathered_more, gathered_outputs, none_where, not_in_either}
use Rattle.machine_table.proofs.machine.Machine.output_word.Goals.{else-holds, then-holds+else-given-all}
use Rattle.machine_table.proofs.machine.Machine.output_word.Goals as goal

pub returns-then-given-all-clause-below : goal.returns-then-given-all-clause-below
returns-then-given-all-clause-below c =
    let F = c.args.self.now in
    let asked = c.numbers_of-number-items in
    let row = c.row-row.result.now in
    let i = get_or asked.result.now c.loop-number.number-index 0 in
    let at = is_row_at F asked.ensures.table c.args.s c.args.x i row (asked.ensures.own i (Contains-get_or asked.result.now c.loop-number.number-index 0 c.loop-number-test.true))
    c.row-row.ensures.row (c.holds.ensures.0 c.if-holds.true) in
    gathered_below F c.args.s c.args.x (bit_or c.loop-number.given row.care) (bit_or c.loop-number.word row.value)
    (gathered_more F c.args.s c.args.x asked.ensures.no_conflict row c.row-row.ensures.lawful at c.loop-number.given c.loop-number.word c.loop-number.invariant.gathered)

pub returns-then-given-all-clause-outputs : goal.returns-then-given-all-clause-outputs
returns-then-given-all-clause-outputs c =
    let F = c.args.self.now in
    let asked = c.numbers_of-number-items in
    let row = c.row-row.result.now in
    let i = get_or asked.result.now c.loop-number.number-index 0 in
    let at = is_row_at F asked.ensures.table c.args.s c.args.x i row (asked.ensures.own i (Contains-get_or asked.result.now c.loop-number.number-index 0 c.loop-number-test.true))
    c.row-row.ensures.row (c.holds.ensures.0 c.if-holds.true) in
    let whole : bit_or c.loop-number.given row.care ≡ 2 ^ F.outputs - 1 = c.if-given-all.true ∙ c.all_outputs-all.ensures ∙ ap (λ (n : ℕ). 2 ^ n - 1) c.outputs.ensures.count in
    gathered_outputs F c.args.s c.args.x (bit_or c.loop-number.given row.care) (bit_or c.loop-number.word row.value)
    (gathered_more F c.args.s c.args.x asked.ensures.no_conflict row c.row-row.ensures.lawful at c.loop-number.given c.loop-number.word c.loop-number.invariant.gathered)
    (λ b inside none. all_known F c.args.s c.args.x (bit_or c.loop-number.given row.care) b whole inside none)

pub loop-number-preserved : goal.loop-number-preserved
loop-number-preserved c =
    let F = c.args.self.now in
    let asked = c.numbers_of-number-items in
    let row = c.row-row.result.now in
    let i = get_or asked.result.now c.loop-number.number-index 0 in
    let P : KissRow → Type 0 = λ r. HoldsNumber r.cube c.args.x → (b : ℕ) → bit c.if-holds.given b ≡ false → given_bit b r ≡ None in
    elim c.if-holds.branch [
      | then-holds+else-given-all w ↦
          let at = is_row_at F asked.ensures.table c.args.s c.args.x i row (asked.ensures.own i (Contains-get_or asked.result.now c.loop-number.number-index 0 c.loop-number-test.true))
          c.row-row.ensures.row (c.holds.ensures.0 w.if-holds.true) in
          let more = gathered_more F c.args.s c.args.x asked.ensures.no_conflict row c.row-row.ensures.lawful at c.loop-number.given c.loop-number.word c.loop-number.invariant.gathered in
          let left = (λ (b : ℕ) (none : bit c.if-holds.given b ≡ false).
          not_in_either c.loop-number.given row.care b (subst (λ (n : ℕ). bit n b ≡ false) w.given-is none)) in
          record {
            gathered = subst (λ (n : ℕ). IsGathered F c.args.s c.args.x n c.if-holds.word) (sym w.given-is)
                (subst (IsGathered F c.args.s c.args.x (bit_or c.loop-number.given row.care)) (sym w.word-is) more);
            seen = looked_at F.rows asked.result.now c.loop-number.number-index P row
                (λ k d r before at_row held b none. c.loop-number.invariant.seen k d r before at_row held b (left b none).0)
                c.loop-number-test.true c.row-row.ensures.row
                (λ held b none. none_where row b (left b none).1);
          }
      | else-holds w ↦
          record {
            gathered = subst (λ (n : ℕ). IsGathered F c.args.s c.args.x n c.if-holds.word) (sym w.given-is)
                (subst (IsGathered F c.args.s c.args.x c.loop-number.given) (sym w.word-is) c.loop-number.invariant.gathered);
            seen = looked_at F.rows asked.result.now c.loop-number.number-index P row
                (λ k d r before at_row held b none. c.loop-number.invariant.seen k d r before at_row held b (subst (λ (n : ℕ). bit n b ≡ false) w.given-is none))
                c.loop-number-test.true c.row-row.ensures.row
                (λ held b none. absurd (true≢false (sym (c.holds.ensures.1 held) ∙ w.if-holds.false)));
          }
    ]

pub returns-clause-below : goal.returns-clause-below
returns-clause-below c = gathered_below c.args.self.now c.args.s c.args.x c.loop-number.given c.loop-number.word c.loop-number.invariant.gathered

pub returns-clause-outputs : goal.returns-clause-outputs
returns-clause-outputs c =
    let F = c.args.self.now in
    let asked = c.numbers_of-number-items in
    gathered_outputs F c.args.s c.args.x c.loop-number.given c.loop-number.word c.loop-number.invariant.gathered
    (λ b inside none.
    output_bit_not_said F c.args.s (symbol_of F.inputs c.args.x) b
    (of_each_row F asked.ensures.table c.args.s c.args.x asked.result.now (λ (row : KissRow). IsNone (given_bit b row)) asked.ensures.each
    (λ k d row within at_row held.
    let gone : given_bit b row ≡ None = c.loop-number.invariant.seen k d row (omega (arith, within, c.loop-number-test.false)) at_row held b none in
    subst (λ (t : Option Bool). IsNone t) (sym gone) refl)))
