-- The smaller numbers are not enough.
use Rattle.std.proofs.Common.{◌≡◌, ◌-◌}
use Rattle.realise.specs.Inner.FreeNames.{first_count, first_free}
use Rattle.realise.proofs.own_names.prefix_count.Given as goal

abbrev pub invariant-loop-count : goal.invariant-loop-count
invariant-loop-count l = first_free (22 - l.count) l.file l.latches l.count ≡ first_count l.file l.latches
