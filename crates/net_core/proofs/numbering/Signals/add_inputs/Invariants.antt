use Rattle.std.proofs.Common.{◌≡◌, ◌++◌, take}
use Rattle.net_core.proofs.numbering.Signals.add_inputs.Given as goal

abbrev pub invariant-loop-name : goal.invariant-loop-name
invariant-loop-name l = l.self ≡ l.initial.self ++ take l.name-index l.names
