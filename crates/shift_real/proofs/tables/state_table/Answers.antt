use Rattle.std.proofs.Common.{◌∙◌, length-set, ℕ, ◌*◌, ap, arith, get_or}
use Rattle.std.proofs.lemmas.Option.{slice_get-get_or}
use Rattle.shift_real.specs.declared.contents.Content.{Content}
use Rattle.shift_real.proofs.StateTables.{table_is, written_more}
use Rattle.shift_real.proofs.tables.state_table.Goals as goal

pub loop-content-preserved : goal.loop-content-preserved
loop-content-preserved c =
    let i = c.loop-content.content-index in
    record {
      size = length-set c.loop-content.table.items _ _ ∙ c.loop-content.invariant.size;
      written = written_more c.args.m.now c.args.k c.args.contents.now c.requires.contents c.loop-content.table.items i _ c.loop-content.invariant.size (slice_get-get_or c.args.contents.now i _ c.loop-content-test.true) c.loop-content.invariant.written;
    }

pub returns : goal.returns
returns c = table_is c.args.m.now c.args.k c.args.contents.now c.requires.contents c.loop-content.table.items c.loop-content.content-index c.loop-content.invariant.size c.loop-content-test.false c.loop-content.invariant.written

pub overflow_mul-size : goal.overflow_mul-size
overflow_mul-size c = omega (arith, ap (λ (n : ℕ). c.args.k * n) (c.from.ensures ∙ c.inputs.ensures.count), c.requires.short)

pub overflow_shl-size : goal.overflow_shl-size
overflow_shl-size c = omega (arith, ap (λ (n : ℕ). c.args.k * n) (c.from.ensures ∙ c.inputs.ensures.count), c.requires.short)

pub index_mut-requires : goal.index_mut-requires
index_mut-requires c =
    let i = c.loop-content.content-index in
    let none : Content = record { latches = 0; state = 0 } in
    omega (arith, c.loop-content.invariant.size, c.loop-content.table.ok.0, (c.requires.contents.right i (get_or c.args.contents.now i none) (slice_get-get_or c.args.contents.now i none c.loop-content-test.true)).3.small)
