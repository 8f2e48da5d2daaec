use Rattle.std.proofs.Common.{ℕ, ◌≡◌, ◌+◌, length, get_or, Vec, Global, sym, ap, ◌∙◌, subst, arith}
use Rattle.std.proofs.lemmas.Bool.{true≢false}
use Rattle.std.proofs.lemmas.List.Elements.{Contains-get_or}
use Rattle.cubes.specs.declared.cube.Cube.{Cube}
use Rattle.machine_table.specs.Inner.OpenSymbol.{AreCubesOf}
use Rattle.machine_table.proofs.OpenCubes.{held_from_said, said_from_held, widths_of, with_cube, without_cube}
use Rattle.machine_table.proofs.machine.Machine.cubes_that_say.Goals.{else-says, then-says+in_ok-push}
use Rattle.machine_table.proofs.machine.Machine.cubes_that_say.Goals as goal

pub loop-number-preserved : goal.loop-number-preserved
loop-number-preserved c =
    let F = c.args.self.now in
    let asked = c.numbers_of-number-items in
    let count = c.loop-number.number-index in
    let row = c.row-row.result.now in
    let own = asked.ensures.own (get_or asked.result.now count 0) (Contains-get_or asked.result.now count 0 c.loop-number-test.true) in
    elim c.if-says.branch [
      | then-says+in_ok-push w ↦
          subst (AreCubesOf F c.args.s c.args.part asked.result.now (count + 1))
          (sym (ap (λ (v : Vec Cube Global). v.items) w.cubes-is ∙ w.in_ok-push.ensures.items))
          (with_cube F c.args.s c.args.part asked.result.now count c.loop-number.cubes.items row c.loop-number.invariant c.loop-number-test.true own c.row-row.ensures.row
          (c.says.ensures.0 w.if-says.true))
      | else-says w ↦
          subst (AreCubesOf F c.args.s c.args.part asked.result.now (count + 1)) (sym (ap (λ (v : Vec Cube Global). v.items) w.cubes-is))
          (without_cube F c.args.s c.args.part asked.result.now count c.loop-number.cubes.items row c.loop-number.invariant c.loop-number-test.true own c.row-row.ensures.row
          (λ said. true≢false (sym (c.says.ensures.1 said) ∙ w.if-says.false)))
    ]

-- all numbers of the state were looked at
all_seen : (c : goal.After-loop-number) → AreCubesOf c.args.self.now c.args.s c.args.part c.numbers_of-number-items.result.now (length c.numbers_of-number-items.result.now) c.loop-number.cubes.items
all_seen c =
    let all : c.loop-number.number-index ≡ length c.numbers_of-number-items.result.now = omega (arith, c.loop-number-test.false, c.loop-number.auto.number-index-end) in
    subst (λ (n : ℕ). AreCubesOf c.args.self.now c.args.s c.args.part c.numbers_of-number-items.result.now n c.loop-number.cubes.items) all c.loop-number.invariant

pub returns-clause-widths : goal.returns-clause-widths
returns-clause-widths c =
    let asked = c.numbers_of-number-items in
    widths_of c.args.self.now asked.ensures.table c.args.s c.args.part asked.result.now c.loop-number.cubes.items (all_seen c) asked.ensures.each

pub returns-clause-held : goal.returns-clause-held
returns-clause-held c number =
    let asked = c.numbers_of-number-items in (
      said_from_held c.args.self.now asked.ensures.table c.args.s c.args.part asked.result.now c.loop-number.cubes.items (all_seen c) asked.ensures.each number,
      held_from_said c.args.self.now asked.ensures.table c.args.s c.args.part asked.result.now c.loop-number.cubes.items (all_seen c) asked.ensures.each number,
    )
