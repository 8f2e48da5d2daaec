use Rattle.std.proofs.Common.{inl, inr, arith}
use Rattle.part_machines.proofs.Gathering.{in_one, none_in_zero}
use Rattle.part_machines.proofs.part_inputs.some_input.Goals as goal

pub returns-then-others-eq0 : goal.returns-then-others-eq0
returns-then-others-eq0 c a = (
  (λ is. inr (omega arith, omega arith, (in_one a).0 is)),
  (λ either. elim either [
    | inl in_word ↦ absurd (none_in_zero c.args.inputs a (omega arith) in_word)
    | inr none ↦ (in_one a).1 none.2
  ]),
)
