use Rattle.blif_in.proofs.Closing.{gate_drives, latch_drives}
use Rattle.blif_in.proofs.reader.drives.Goals as goal

pub returns-then-latch_drives : goal.returns-then-latch_drives
returns-then-latch_drives c = latch_drives c.args.net.now c.args.name.now _ _ c.as_slice.ensures c.latch_drives.ensures c.if-latch_drives.true

pub returns-else-latch_drives : goal.returns-else-latch_drives
returns-else-latch_drives c = gate_drives c.args.net.now c.args.name.now _ _ _ _ c.as_slice.ensures c.latch_drives.ensures c.if-latch_drives.false c.as_slice-else-latch_drives.ensures c.gate_drives.ensures
