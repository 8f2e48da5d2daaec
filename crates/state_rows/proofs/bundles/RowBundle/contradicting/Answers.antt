use Rattle.std.proofs.Common.{ℕ, ◌<◌, ◌^◌, bit_and, subst, arith}
use Rattle.cubes.specs.Cube.{Meets}
use Rattle.std.proofs.lemmas.Nat.{and_le_l}
use Rattle.kiss_file.specs.declared.file.KissRow.{KissRow}
use Rattle.pattern_bundles.specs.declared.pattern.Pattern.{Pattern}
use Rattle.pattern_bundles.specs.Pattern.{Agree, Marks}
use Rattle.state_rows.specs.Bundles.{MarksRows}
use Rattle.state_rows.proofs.BundleMarks.{marks_contradicting, marks_no_contradiction}
use Rattle.state_rows.proofs.bundles.RowBundle.contradicting.Goals as goal

pub returns-then-meeting-eq0 : goal.returns-then-meeting-eq0
returns-then-meeting-eq0 c rows known =
    let bundle = c.args.self.now in
    let row = c.args.row.now in
    marks_no_contradiction rows bundle row
    (subst (λ (word : ℕ). MarksRows rows bundle.numbers (λ (other : KissRow). Meets row.cube other.cube) word) c.if-meeting-eq0.true (c.meeting-meeting.ensures rows known.right known.fit))

pub returns : goal.returns
returns c rows known =
    let bundle = c.args.self.now in
    let row = c.args.row.now in
    let a = c.agreeing.result in
    let b = c.agreeing-2.result in
    let fits : bit_and a b < 2 ^ 64 = omega (arith, and_le_l a b) in
    marks_contradicting rows bundle row c.meeting-meeting.result a b known fits (c.meeting-meeting.ensures rows known.right known.fit)
    (subst (λ (p : Pattern). Marks bundle.nexts (Agree p) a) c.pattern_of_next.ensures c.agreeing.ensures)
    (subst (λ (p : Pattern). Marks bundle.outputs (Agree p) b) c.pattern_of_outputs.ensures c.agreeing-2.ensures)
