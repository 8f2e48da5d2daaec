use Rattle.net_sim.specs.Inner.Forms.{HasValues}
use Rattle.net_sim.proofs.forms.word_of.Given as goal

abbrev pub invariant-loop-number : goal.invariant-loop-number
invariant-loop-number l = HasValues l.gate l.number l.values
