use Rattle.std.proofs.Common.{◌≡◌, ◌++◌, take}
use Rattle.blif_in.proofs.draft.add_names.Given as goal

abbrev pub invariant-loop-name : goal.invariant-loop-name
invariant-loop-name l = l.into ≡ l.initial.into ++ take l.name-index l.names
