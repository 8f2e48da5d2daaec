use Rattle.std.proofs.Common.{rules, ℕ, ◌≡◌, ◌∷◌, ◌++◌, [], All, List, false, true, subst, sym, ◌∙◌}
use Rattle.kiss_file.specs.declared.file.KissRow.{KissRow}
use Rattle.machine_table.specs.Pieces.{IsSaidBy}
use Rattle.dependence.specs.Inner.FilledRows.{AreNear, Fills, IsFilling, SayNothing}
use Rattle.dependence.proofs.FilledRows.{filled, filled_before, filled_by_halves, near_half, near_met, widths_met}
use Rattle.dependence.proofs.whole_rows.+fill_cube.Goals as goal

pub said_in-requires-clause-widths : goal.said_in-requires-clause-widths
said_in-requires-clause-widths t c =
    subst (λ (list : List KissRow). All (λ row. row.cube.width ≡ c.args.cube.width) list) (sym c.deref.ensures.value)
    (widths_met c.args.m.now c.args.s c.args.cube c.args.rows.now c.in_ok-met.met.items c.requires.rows c.in_ok-met.ensures)

pub filling-row-requires-clause-widths : goal.filling-row-requires-clause-widths
filling-row-requires-clause-widths t c =
    subst (λ (list : List KissRow). All (λ row. row.cube.width ≡ c.args.cube.width) list) (sym c.deref-in_default.ensures.value)
    (widths_met c.args.m.now c.args.s c.args.cube c.args.rows.now c.in_ok-met.met.items c.requires.rows c.in_ok-met.ensures)

pub fill_cube-requires : goal.fill_cube-requires
fill_cube-requires t c = (
  search rules,
  (
    c.requires.state,
    (
      c.requires.part,
      (
        c.half.ensures.half.width ∙ c.requires.width,
        (
          subst (AreNear c.args.m.now c.args.s c.half.result) (sym c.deref-2.ensures.value)
              (near_half c.args.m.now c.args.s c.args.cube c.args.rows.now c.in_ok-met.met.items c.requires.rows c.in_ok-met.ensures c.half.result c.in-Some-free_place.place false c.half.ensures.half),
          c.requires.added,
        ),
      ),
    ),
  ),
)

pub fill_cube-requires-2 : goal.fill_cube-requires-2
fill_cube-requires-2 t c = (
  search rules,
  (
    c.requires.state,
    (
      c.requires.part,
      (
        c.half-2.ensures.half.width ∙ c.requires.width,
        (
          subst (AreNear c.args.m.now c.args.s c.half-2.result) (sym c.deref-3.ensures.value)
              (near_half c.args.m.now c.args.s c.args.cube c.args.rows.now c.in_ok-met.met.items c.requires.rows c.in_ok-met.ensures c.half-2.result c.in-Some-free_place.place true c.half-2.ensures.half),
          c.in_ok-fill_cube.ensures.right,
        ),
      ),
    ),
  ),
)

pub returns-in_default : goal.returns-in_default
returns-in_default t c =
    let F = c.args.m.now in
    let s = c.args.s in
    let met = c.in_ok-met.met.items in
    let old = c.args.added.now.items in
    let row = c.filling-row.result in
    let near : AreNear F s c.args.cube met = near_met F s c.args.cube c.args.rows.now met c.requires.rows c.in_ok-met.ensures in
    let filling : IsFilling met s c.args.cube F.outputs row =
    subst (λ (n : ℕ). IsFilling met s c.args.cube n row) c.outputs.ensures.count
    (subst (λ (list : List KissRow). IsFilling list s c.args.cube c.outputs.result row) c.deref-in_default.ensures.value c.filling-row.ensures) in
    let silent : SayNothing met c.args.cube c.args.part = subst (λ (list : List KissRow). SayNothing list c.args.cube c.args.part) c.deref.ensures.value c.in_default.ensures.none in
    let pushed : c.push.new.self.items ≡ old ++ row ∷ [] = c.in_ok-push.ensures.items in
    subst (λ (list : List KissRow). Fills F s c.args.part c.args.cube c.args.rows.now old list) (sym pushed)
    (filled F c.keeps_its_states.ensures.table c.keeps_its_states.ensures.no_conflict s met c.args.cube near c.requires.width c.requires.state row filling c.args.part c.requires.part silent c.args.rows.now old c.requires.added)

pub returns-in_default-free_place : goal.returns-in_default-free_place
returns-in_default-free_place t c =
    filled_before c.args.m.now c.args.s c.args.part c.args.cube c.args.rows.now c.in_ok-met.met.items c.args.added.now.items c.in_ok-met.ensures c.requires.added
    (λ x held. subst (λ (list : List KissRow). IsSaidBy list x c.args.part) c.deref.ensures.value (c.in-Some.ensures.some x (c.in_default-free_place.ensures.none x held)))

pub returns : goal.returns
returns t c =
    let F = c.args.m.now in
    let met = c.in_ok-met.met.items in
    let low : Fills F c.args.s c.args.part c.half.result met c.args.added.now.items c.fill_cube.new.added.items =
    subst (λ (list : List KissRow). Fills F c.args.s c.args.part c.half.result list c.args.added.now.items c.fill_cube.new.added.items) c.deref-2.ensures.value c.in_ok-fill_cube.ensures in
    let high : Fills F c.args.s c.args.part c.half-2.result met c.fill_cube.new.added.items c.fill_cube-2.new.added.items =
    subst (λ (list : List KissRow). Fills F c.args.s c.args.part c.half-2.result list c.fill_cube.new.added.items c.fill_cube-2.new.added.items) c.deref-3.ensures.value c.in_ok-fill_cube-2.ensures in
    filled_by_halves F c.args.s c.args.cube c.args.rows.now met c.requires.rows c.in_ok-met.ensures c.args.part c.half.result c.half-2.result c.in-Some-free_place.place c.half.ensures.half c.half-2.ensures.half
    c.args.added.now.items c.fill_cube.new.added.items c.fill_cube-2.new.added.items low high
