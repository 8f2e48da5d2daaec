use Rattle.std.proofs.Common.{ℕ, All, List, subst, take, arith, bit_and}
use Rattle.std.proofs.lemmas.List.{take_all}
use Rattle.std.proofs.lemmas.List.Elements.{All-push, All-weaker}
use Rattle.std.specs.Int.RustNames.{bit_xor}
use Rattle.kiss_file.specs.declared.file.KissRow.{KissRow}
use Rattle.dependence.specs.Inner.Effects.{HasBits}
use Rattle.dependence.proofs.Across.{one_more}
use Rattle.dependence.proofs.Shared.{fewer_bits, own_bits}
use Rattle.dependence.proofs.effects.shared_bits.Goals as goal

pub loop-row-preserved : goal.loop-row-preserved
loop-row-preserved c =
    let row : KissRow = c.row-item.result in
    let ones : ℕ = bit_and c.loop-row.ones c.row-item.result.cube.value in
    let zeros : ℕ = bit_and c.loop-row.zeros (bit_xor c.row-item.result.cube.care c.row-item.result.cube.value) in
    subst (λ (list : List KissRow). All (HasBits ones zeros) list)
    (one_more c.args.rows.now c.loop-row.row-index c.row-item.result c.loop-row-test.true c.row-item.is)
    (All-push (HasBits ones zeros) (take c.loop-row.row-index c.args.rows.now) row
    (All-weaker (HasBits c.loop-row.ones c.loop-row.zeros) (HasBits ones zeros)
    (λ it has. fewer_bits c.loop-row.ones c.loop-row.zeros row.cube.value (bit_xor row.cube.care row.cube.value) it has)
    (take c.loop-row.row-index c.args.rows.now) c.loop-row.invariant)
    (own_bits c.loop-row.ones c.loop-row.zeros row))

pub returns : goal.returns
returns c =
    subst (λ (list : List KissRow). All (HasBits c.loop-row.ones c.loop-row.zeros) list)
    (take_all c.loop-row.row-index c.args.rows.now (omega arith)) c.loop-row.invariant
