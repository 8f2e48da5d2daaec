use Rattle.std.proofs.Common.{◌≡◌, ◌<◌, ◌∙◌, ℕ, List, ap, get_or, length, refl, arith}
use Rattle.state_rows.specs.Laws.Lists.{list_at}
use Rattle.io_pairs.specs.Inner.Families.{functions_of, value_at}
use Rattle.io_pairs.proofs.Tying.{ties_more}
use Rattle.io_pairs.proofs.least.tie.Goals as goal

pub loop-k-preserved : goal.loop-k-preserved
loop-k-preserved c =
    let family = c.args.family.now in
    let functions = functions_of family in
    let k = c.loop-k.k in
    let within : k < length functions = omega (arith, c.loop-k-test.true, c.len-k-end.ensures) in
    let row = list_at functions k k c.index.result.now c.as_slice-function.result.now within refl c.index.ensures c.as_slice-function.ensures in
    let first : c.from.result ≡ value_at functions k c.args.x = c.from.ensures ∙ ap (λ (xs : List ℕ). get_or xs c.args.x 0) row in
    let second : c.from-in-loop-k.result ≡ value_at functions k c.args.y = c.from-in-loop-k.ensures ∙ ap (λ (xs : List ℕ). get_or xs c.args.y 0) row in
    let in_u : c.from.result < length c.loop-k.q =
    omega (arith, first, c.requires.family.below k c.args.x within c.requires.x, c.loop-k.invariant.lawful.length, c.requires.values.length) in
    let in_v : c.from-in-loop-k.result < length c.loop-k.q =
    omega (arith, second, c.requires.family.below k c.args.y within c.requires.y, c.loop-k.invariant.lawful.length, c.requires.values.length) in
    ties_more functions k c.args.x c.args.y c.from.result c.from-in-loop-k.result c.args.q.now c.loop-k.q c.merge.new.self within first second in_u in_v c.loop-k.invariant c.merge.ensures
