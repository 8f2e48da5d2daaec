use Rattle.std.proofs.Common.{◌-◌, length, arith}
use Rattle.dependence.specs.Inner.Effects.{IsActed, Show}
use Rattle.dependence.proofs.Adding.{acted_shows, adds_as, shows_acted}
use Rattle.dependence.proofs.Symbols.{clash_within}
use Rattle.dependence.proofs.effects.add_of_two.Goals as goal

pub overflow_sub-input-in-Some : goal.overflow_sub-input-in-Some
overflow_sub-input-in-Some c = omega (arith, clash_within c.args.one.now.cube c.args.other.now.cube c.in-Some.place c.in-Some.ensures.some, c.requires.inputs)

pub returns-in-Some : goal.returns-in-Some
returns-in-Some c =
    let inputs = length c.args.effects.now in
    let words = c.args.words.now in
    let one = c.args.one.now in
    let other = c.args.other.now in
    let latches = c.latches_apart-latches.result in
    let outputs = c.outputs_apart-outputs.result in
    adds_as c.args.effects.now c.add_effect.new.effects (IsActed (inputs - 1 - c.in-Some.place) latches outputs) (Show inputs words one other)
    (acted_shows words one other latches outputs c.latches_apart-latches.ensures c.outputs_apart-outputs.ensures inputs c.in-Some.place c.in-Some.ensures.some
    (omega (arith, clash_within one.cube other.cube c.in-Some.place c.in-Some.ensures.some, c.requires.inputs)))
    (shows_acted words one other latches outputs c.latches_apart-latches.ensures c.outputs_apart-outputs.ensures inputs c.in-Some.place c.in-Some.ensures.some)
    c.add_effect.ensures
