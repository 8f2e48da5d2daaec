-- The prefixes so far were added.
use Rattle.std.proofs.Common.{◌≡◌, ◌++◌}
use Rattle.realise.specs.Names.{prefix}
use Rattle.realise.proofs.own_names.push_prefixes.Given as goal

abbrev pub invariant-loop-i : goal.invariant-loop-i
invariant-loop-i l = l.text.items ≡ l.initial.text.items ++ prefix l._i
