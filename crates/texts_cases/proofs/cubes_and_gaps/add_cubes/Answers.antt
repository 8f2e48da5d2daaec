use Rattle.std.proofs.Common.{◌≡◌, ◌∙◌, All, IfOk, List, Result, ap, subst, sym}
use Rattle.std.proofs.lemmas.List.Elements.{All-push}
use Rattle.cubes.specs.declared.cube.Cube.{Cube}
use Rattle.cubes.specs.declared.cube.CubeFail.{CubeFail}
use Rattle.texts_cases.proofs.cubes_and_gaps.add_cubes.Goals.{in-Ok+in_ok-push, in_default}
use Rattle.texts_cases.proofs.cubes_and_gaps.add_cubes.Goals as goal

pub loop-field-init : goal.loop-field-init
loop-field-init c = c.requires.old

pub loop-field-preserved : goal.loop-field-preserved
loop-field-preserved c =
    let fits = λ (cube : Cube). cube.width ≡ c.args.width in
    elim c.match-parse.branch [
      | in-Ok+in_ok-push w ↦
          let width : fits w.in-Ok.cube = subst (λ (r : Result Cube CubeFail). IfOk r fits) w.in-Ok.is c.parse.ensures.width in
          subst (λ (list : List Cube). All fits list) (sym (ap (λ v. v.items) w.cubes-is ∙ w.in_ok-push.ensures.items)) (All-push fits c.loop-field.cubes.items w.in-Ok.cube c.loop-field.invariant width)
      | in_default w ↦ subst (λ (list : List Cube). All fits list) (sym (ap (λ v. v.items) w.cubes-is)) c.loop-field.invariant
    ]

pub returns : goal.returns
returns c = c.loop-field.invariant
