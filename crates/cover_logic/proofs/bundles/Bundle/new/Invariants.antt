use Rattle.std.proofs.Common.{◌≡◌, length}
use Rattle.cover_logic.specs.Inner.Planes.{ArePlanes}
use Rattle.cover_logic.proofs.bundles.Bundle.new.Given as goal

abbrev pub invariant-loop-column : goal.invariant-loop-column
invariant-loop-column l = ArePlanes l.entries l.planes.items × (length l.planes.items ≡ l.column)
