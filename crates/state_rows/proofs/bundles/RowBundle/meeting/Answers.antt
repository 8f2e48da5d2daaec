use Rattle.std.proofs.Common.{subst}
use Rattle.pattern_bundles.specs.declared.pattern.Pattern.{Pattern}
use Rattle.pattern_bundles.specs.Pattern.{Agree, Marks}
use Rattle.state_rows.proofs.BundleMarks.{marks_meeting}
use Rattle.state_rows.proofs.bundles.RowBundle.meeting.Goals as goal

pub returns : goal.returns
returns c rows right fit =
    let bundle = c.args.self.now in
    let word = c.agreeing.result in
    marks_meeting rows bundle c.args.cube.now word right fit (subst (λ (p : Pattern). Marks bundle.cubes (Agree p) word) c.pattern_of_cube.ensures c.agreeing.ensures)
