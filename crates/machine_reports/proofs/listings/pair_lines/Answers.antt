use Rattle.std.proofs.Common.{[], sym}
use Rattle.mm_lattice.specs.Sides.{sides_of}
use Rattle.machine_reports.specs.StateTexts.{state_pair_line}
use Rattle.machine_reports.proofs.Listing.{seen_more}
use Rattle.machine_reports.proofs.listings.pair_lines.Goals as goal

pub loop-pair-preserved : goal.loop-pair-preserved
loop-pair-preserved c =
    seen_more (state_pair_line c.args.shown c.args.names.now) sides_of [] c.loop-pair.text.items c.append_state_pair.new.text.items c.args.pairs.now c.loop-pair.pair-index c.pair-item.result c.loop-pair-test.true (sym c.pair-item.is) c.loop-pair.invariant c.in_ok-append_state_pair.ensures
