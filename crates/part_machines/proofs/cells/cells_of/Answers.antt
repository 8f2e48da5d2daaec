use Rattle.std.proofs.Common.{◌≡◌, ◌<◌, ℕ, List, length, refl, subst, sym, arith}
use Rattle.part_machines.specs.declared.cells.Cell.{Cell}
use Rattle.part_machines.specs.CellLists.{AreCellsOf}
use Rattle.part_machines.proofs.Listing.{added, no_cells}
use Rattle.part_machines.proofs.cells.cells_of.Goals as goal

pub loop-s-init : goal.loop-s-init
loop-s-init c =
    subst (λ (cells : List Cell). AreCellsOf c.args.p.now c.args.words.now c.args.bits.now 0 cells) (sym c.new-cells.ensures.items)
    (no_cells c.args.p.now c.args.words.now c.args.bits.now)

pub loop-s-preserved : goal.loop-s-preserved
loop-s-preserved c =
    let within : c.loop-s.s < length c.args.p.now = omega (arith, c.loop-s-test.true, c.len-s-end.ensures.len) in
    let cell : Cell = record { state = c.loop-s.s; block = c.label-block.result; value = c.value_on-value.result } in
    added c.args.p.now c.args.words.now c.args.bits.now c.loop-s.s within c.loop-s.cells.items c.add.new.cells.items c.loop-s.invariant cell refl
    c.label-block.ensures c.value_on-value.ensures.spelled c.value_on-value.ensures.below c.in_ok-add.ensures

pub returns : goal.returns
returns c =
    let all : c.loop-s.s ≡ length c.args.p.now = omega (arith, c.loop-s-test.false, c.loop-s.auto.s-end, c.len-s-end.ensures.len) in
    subst (λ (n : ℕ). AreCellsOf c.args.p.now c.args.words.now c.args.bits.now n c.loop-s.cells.items) all c.loop-s.invariant
