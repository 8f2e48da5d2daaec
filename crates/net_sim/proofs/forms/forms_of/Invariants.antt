use Rattle.std.proofs.Common.{take}
use Rattle.std.specs.List.{AllZip}
use Rattle.net_sim.specs.Inner.Forms.{IsForm}
use Rattle.net_sim.proofs.forms.forms_of.Given as goal

abbrev pub invariant-loop-gate : goal.invariant-loop-gate
invariant-loop-gate l = AllZip IsForm (take l.gate-index l.gates) l.forms
