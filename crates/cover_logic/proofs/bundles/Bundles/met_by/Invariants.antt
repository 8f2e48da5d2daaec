use Rattle.std.proofs.Common.{take}
use Rattle.cover_logic.specs.Inner.Bundles.{entries_in}
use Rattle.cover_logic.specs.Inner.Entries.{IsMet}
use Rattle.cover_logic.proofs.bundles.Bundles.met_by.Given as goal

abbrev pub invariant-loop-bundle : goal.invariant-loop-bundle
invariant-loop-bundle l = IsMet l.row (entries_in (take l.bundle-index l.self.bundles.items)) l.met.items
