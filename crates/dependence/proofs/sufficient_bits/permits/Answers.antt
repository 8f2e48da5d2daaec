use Rattle.std.proofs.Common.{ℕ, List, ◌↔◌, subst}
use Rattle.std.specs.Bool.{IsTrue}
use Rattle.dependence.specs.SufficientBits.{InWord, Permits}
use Rattle.dependence.proofs.sufficient_bits.permits.Goals as goal

pub returns : goal.returns
returns c = subst (λ (words : List ℕ). IsTrue c.permits_gate.result ↔ Permits c.args.m.now words (InWord c.args.set) c.args.i) c.as_slice.ensures c.permits_gate.ensures
