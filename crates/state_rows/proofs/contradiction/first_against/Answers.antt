use Rattle.std.proofs.Common.{ℕ, ◌<◌, IfSome, Option, sym, subst}
use Rattle.state_rows.proofs.Against.{first_of_all, first_of_more}
use Rattle.state_rows.specs.Laws.Least.{lesser_has}
use Rattle.state_rows.proofs.contradiction.first_against.Goals as goal

pub loop-bundle-preserved : goal.loop-bundle-preserved
loop-bundle-preserved c = record {
  below = subst (λ (o : Option ℕ). IfSome o (λ i. i < c.args.number)) (sym c.earlier_of-first.ensures)
      (lesser_has (λ i. i < c.args.number) c.loop-bundle.first c.first_in.result c.loop-bundle.invariant.below c.first_in.ensures.below);
  found = λ rows known.
      first_of_more rows c.args.bundles.now c.loop-bundle.bundle-index c.args.number c.args.row.now c.bundle-item.result c.loop-bundle.first c.first_in.result
      c.earlier_of-first.result c.earlier_of-first.ensures c.bundle-item.is c.loop-bundle-test.true (c.loop-bundle.invariant.found rows known)
      (c.first_in.ensures.found rows (known c.bundle-item.result (c.loop-bundle.bundle-index, c.loop-bundle-test.true, sym c.bundle-item.is)));
}

pub returns-clause-found : goal.returns-clause-found
returns-clause-found c rows known =
    first_of_all rows c.args.bundles.now c.loop-bundle.bundle-index c.args.number c.args.row.now c.loop-bundle.first c.loop-bundle-test.false
    (c.loop-bundle.invariant.found rows known)
