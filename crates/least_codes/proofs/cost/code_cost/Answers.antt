use Rattle.least_codes.proofs.Costs.{costs_all, costs_more, costs_none}
use Rattle.std.proofs.Common.{arith}
use Rattle.least_codes.proofs.cost.code_cost.Goals as goal

pub loop-i-init : goal.loop-i-init
loop-i-init c = record { costs = λ F of size. costs_none F c.args.words.now c.args.bits; small = omega arith }

pub loop-i-preserved : goal.loop-i-preserved
loop-i-preserved c = record {
  costs = λ F of size. costs_more F c.args.words.now c.args.bits c.loop-i.i c.loop-i.cost c.in_ok-cost.field-0 (c.loop-i.invariant.costs F of size) (c.in_ok-cost.ensures.cost F of size);
  small = omega (arith, c.in_ok-cost.ensures.few);
}

pub returns : goal.returns
returns c F of size = costs_all F c.args.words.now c.args.bits c.loop-i.i c.loop-i.cost (omega arith) (c.loop-i.invariant.costs F of size)
