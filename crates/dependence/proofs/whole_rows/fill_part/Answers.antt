use Rattle.std.proofs.Common.{[], All, List, subst, sym, ◌∙◌, arith}
use Rattle.kiss_file.specs.declared.file.KissRow.{KissRow}
use Rattle.machine_table.specs.Pieces.{IsRightRow}
use Rattle.dependence.specs.Inner.FilledRows.{AreNear, Fills}
use Rattle.dependence.proofs.FilledRows.{near_whole, part_filled}
use Rattle.dependence.proofs.whole_rows.fill_part.Goals as goal

pub fill_cube-requires-clause-rows : goal.fill_cube-requires-clause-rows
fill_cube-requires-clause-rows c =
    subst (AreNear c.args.m.now c.args.s c.whole-all.result) (sym c.as_slice.ensures.value)
    (near_whole c.args.m.now c.args.s c.whole-all.result c.args.rows.now.items (c.whole-all.ensures.width ∙ c.inputs.ensures.count) c.requires.rows)

pub fill_cube-requires-clause-added : goal.fill_cube-requires-clause-added
fill_cube-requires-clause-added c =
    subst (All (IsRightRow c.args.m.now c.args.s)) (sym c.new-added.ensures.items) (λ k d lt. absurd (omega (arith, lt)))

pub returns : goal.returns
returns c =
    let rows = c.args.rows.now.items in
    let fills : Fills c.args.m.now c.args.s c.args.part c.whole-all.result rows [] c.fill_cube.new.added.items =
    subst (λ (old : List KissRow). Fills c.args.m.now c.args.s c.args.part c.whole-all.result rows old c.fill_cube.new.added.items) c.new-added.ensures.items
    (subst (λ (list : List KissRow). Fills c.args.m.now c.args.s c.args.part c.whole-all.result list c.new-added.result.items c.fill_cube.new.added.items) c.as_slice.ensures.value c.in_ok-fill_cube.ensures) in
    part_filled c.args.m.now c.args.s c.args.part c.whole-all.result rows c.fill_cube.new.added.items c.append.new.self.items c.whole-all.ensures.all c.requires.rows fills c.in_ok-append.ensures.items
