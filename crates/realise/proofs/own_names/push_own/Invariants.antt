-- The names so far were added.
use Rattle.std.proofs.Common.{◌≡◌, ◌++◌}
use Rattle.realise.specs.Names.{own_names}
use Rattle.realise.proofs.own_names.push_own.Given as goal

abbrev pub invariant-loop-number : goal.invariant-loop-number
invariant-loop-number l = l.names ≡ l.initial.names ++ own_names l.count l.letter l.number
