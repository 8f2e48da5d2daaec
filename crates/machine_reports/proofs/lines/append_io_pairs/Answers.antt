use Rattle.std.proofs.Common.{sym}
use Rattle.io_pairs.specs.Sides.{sides_of}
use Rattle.machine_reports.specs.ListTexts.{pair_line}
use Rattle.machine_reports.proofs.Listing.{seen_more}
use Rattle.machine_reports.proofs.lines.append_io_pairs.Goals as goal

pub loop-pair-preserved : goal.loop-pair-preserved
loop-pair-preserved c =
    seen_more pair_line sides_of c.args.text.now.items c.loop-pair.text.items c.append_io_pair.new.text.items c.args.pairs.now c.loop-pair.pair-index c.pair-item.result c.loop-pair-test.true (sym c.pair-item.is) c.loop-pair.invariant c.in_ok-append_io_pair.ensures
