use Rattle.machine_reports.proofs.Digits.{digit_more}
use Rattle.machine_reports.proofs.output_lines.append_digits.Goals as goal

pub loop-place-preserved : goal.loop-place-preserved
loop-place-preserved c =
    digit_more c.args.text.now.items c.loop-place.text.items c.push.new.self.items c.args.word c.loop-place.place c.digit_at.result c.loop-place.invariant c.in_ok-push.ensures.items c.digit_at.ensures
