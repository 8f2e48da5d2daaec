use Rattle.std.proofs.Common.{ℕ, ◌≡◌, All, List, Vec, Global, get_or, sym, ap, ◌∙◌, subst}
use Rattle.std.proofs.lemmas.List.Elements.{All-push, Contains-get_or}
use Rattle.cubes.specs.declared.cube.Cube.{Cube}
use Rattle.machine_table.specs.Inner.OpenSymbol.{AreFullCubes, IsFull}
use Rattle.machine_table.proofs.OpenCubes.{with_full_cube}
use Rattle.state_pairs.specs.Laws.Sought.{row_of}
use Rattle.machine_table.proofs.machine.Machine.full_cubes.Goals.{else-is_full, then-is_full+in_ok-push}
use Rattle.machine_table.proofs.machine.Machine.full_cubes.Goals as goal

pub loop-number-preserved : goal.loop-number-preserved
loop-number-preserved c =
    let F = c.args.self.now in
    let s = c.args.s in
    let asked = c.numbers_of-number-items in
    let i = get_or asked.result.now c.loop-number.number-index 0 in
    let row = c.row-row.result.now in
    let old = c.loop-number.cubes.items in
    let own = row_of F s i row (asked.ensures.own i (Contains-get_or asked.result.now c.loop-number.number-index 0 c.loop-number-test.true)) c.row-row.ensures.row in
    let Known : List Cube → Type 0 = λ list. All (λ c. c.width ≡ F.inputs) list × AreFullCubes F s list in
    elim c.if-is_full.branch [
      | then-is_full+in_ok-push w ↦
          subst Known (sym (ap (λ (v : Vec Cube Global). v.items) w.cubes-is ∙ w.in_ok-push.ensures.items)) (
            All-push (λ (it : Cube). it.width ≡ F.inputs) old row.cube c.loop-number.invariant.0 c.row-row.ensures.lawful.width,
            with_full_cube F s old c.loop-number.invariant.1 row own (subst (λ (n : ℕ). IsFull n row) c.outputs.ensures.count (c.is_full.ensures w.if-is_full.true)),
          )
      | else-is_full w ↦ subst Known (sym (ap (λ (v : Vec Cube Global). v.items) w.cubes-is)) c.loop-number.invariant
    ]
