use Rattle.std.proofs.Common.{◌≡◌, ◌+◌, ◌-◌, ◌<◌, ◌≤◌, ◌++◌, ◌∷◌, [], length, take, drop, sym, ◌∙◌, ap, subst, arith}
use Rattle.std.proofs.lemmas.Result.{IfOk-from_err}
use Rattle.std.proofs.Math.Nat.{min-le_right}
use Rattle.state_rows.proofs.RowBundles.{AreBundlesBelow, bundles_all, bundles_more, bundles_none, part_all, part_ascending, part_few, part_within}
use Rattle.state_rows.proofs.bundles.bundles_of_numbers.Goals as goal

pub loop-start-preserved : goal.loop-start-preserved
loop-start-preserved c =
    let rows = c.args.rows.now in
    let numbers = c.args.numbers.now in
    let start = c.loop-start.start in
    let count = c.min.result in
    let bundles = c.loop-start.bundles.items in
    let bundle = c.in_ok-bundle_of.field-0 in
    let within : start + count ≤ length numbers = part_within numbers start count c.loop-start.invariant.within c.min.ensures in
    let size : start + count - start ≡ count = omega arith in
    let part : bundle.numbers ≡ take count (drop start numbers) = c.in_ok-bundle_of.ensures.numbers ∙ ap (λ n. take n (drop start numbers)) size in
    let pushed : c.push.new.self.items ≡ bundles ++ bundle ∷ [] = c.in_ok-push.ensures.items in
    record {
      within = within;
      below = subst (AreBundlesBelow rows numbers (start + count)) (sym pushed)
          (bundles_more rows numbers start count bundles bundle within part c.in_ok-bundle_of.ensures.bundle c.loop-start.invariant.below);
    }

pub returns : goal.returns
returns c =
    bundles_all c.args.rows.now c.args.numbers.now c.loop-start.bundles.items c.loop-start.start (omega (arith, c.loop-start-test.false)) c.loop-start.invariant.below

pub loop-start-init : goal.loop-start-init
loop-start-init c = record {
  within = omega arith;
  below = rw c.new-bundles.ensures.items (bundles_none c.args.rows.now c.args.numbers.now);
}

pub bundle_of-requires-clause-few : goal.bundle_of-requires-clause-few
bundle_of-requires-clause-few c = part_few c.args.numbers.now c.loop-start.start (c.loop-start.start + c.min.result - c.loop-start.start) (omega (arith, c.min.ensures, min-le_right (length c.args.numbers.now - c.loop-start.start) 64))

pub bundle_of-requires-clause-inside : goal.bundle_of-requires-clause-inside
bundle_of-requires-clause-inside c =
    let start = c.loop-start.start in
    let within : start + (start + c.min.result - start) ≤ length c.args.numbers.now = omega (arith, part_within c.args.numbers.now c.loop-start.start c.min.result c.loop-start.invariant.within c.min.ensures) in
    part_all c.args.numbers.now start (start + c.min.result - start) within (λ i. i < length c.args.rows.now) c.requires.inside

pub bundle_of-requires-clause-ascending : goal.bundle_of-requires-clause-ascending
bundle_of-requires-clause-ascending c =
    let start = c.loop-start.start in
    let within : start + (start + c.min.result - start) ≤ length c.args.numbers.now = omega (arith, part_within c.args.numbers.now c.loop-start.start c.min.result c.loop-start.invariant.within c.min.ensures) in
    part_ascending c.args.numbers.now start (start + c.min.result - start) within c.requires.ascending

pub returns-in_err-bundle_of : goal.returns-in_err-bundle_of
returns-in_err-bundle_of c = IfOk-from_err c.from_residual.result _ c.from_residual.ensures.0

pub returns-in_err-push : goal.returns-in_err-push
returns-in_err-push c = IfOk-from_err c.from_residual-in_err-push.result _ c.from_residual-in_err-push.ensures.0
