use Rattle.std.proofs.Common.{List, ℕ, subst, arith}
use Rattle.dependence.specs.Bit.{value_of}
use Rattle.dependence.specs.SufficientBits.{InWord}
use Rattle.dependence.specs.ReadRule.{IsReadRule}
use Rattle.dependence.proofs.Gathered.{read_set_from}
use Rattle.dependence.proofs.gate_reads.read_set.Goals as goal

pub returns-clause-set : goal.returns-clause-set
returns-clause-set c =
    let rule : IsReadRule c.args.m.now c.args.codes.now.words (InWord c.args.candidates) (InWord c.in_ok-bits.bits) (value_of c.args.m.now c.args.codes.now.words c.args.gate) =
    subst (λ (words : List ℕ). IsReadRule c.args.m.now words (InWord c.args.candidates) (InWord c.in_ok-bits.bits) (value_of c.args.m.now words c.args.gate)) c.as_slice-words.ensures c.in_ok-bits.ensures.bits in
    read_set_from c.args.m.now c.args.codes.now.words c.args.effects.now c.args.candidates c.args.gate c.in_ok-bits.bits c.inputs_of.result
    (record { inputs = c.in_ok-numbers_of.field-0; latches = c.in_ok-numbers_of-2.field-0 })
    c.requires.gate c.requires.effects (omega arith) (omega arith) rule c.inputs_of.ensures c.in_ok-numbers_of.ensures c.in_ok-numbers_of-2.ensures
