use Rattle.std.proofs.Common.{subst}
use Rattle.pattern_bundles.specs.declared.pattern.Pattern.{Pattern}
use Rattle.pattern_bundles.specs.Pattern.{Agree, Marks}
use Rattle.state_rows.proofs.BundleMarks.{names_no_other}
use Rattle.state_rows.proofs.bundles.RowBundle.naming_no_other.Goals as goal

pub returns : goal.returns
returns c rows right fit =
    let bundle = c.args.self.now in
    names_no_other rows bundle c.args.next c.agreeing.result c.ranges.next.fits right fit
    (subst (λ (p : Pattern). Marks bundle.nexts (Agree p) c.agreeing.result) c.pattern_of_next.ensures c.agreeing.ensures)
