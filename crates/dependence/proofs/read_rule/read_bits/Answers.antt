use Rattle.std.proofs.Common.{◌≡◌, ◌+◌, ◌-◌, subst, arith}
use Rattle.dependence.specs.Bit.{value_of}
use Rattle.dependence.specs.Inner.Judgement.{AreJudgedFrom}
use Rattle.dependence.specs.Laws.Judged.{judged_all, judged_more, judged_none}
use Rattle.dependence.proofs.read_rule.read_bits.Goals as goal

pub loop-c-init : goal.loop-c-init
loop-c-init c = record {
  judged = judged_none c.args.m.now c.args.words.now (value_of c.args.m.now c.args.words.now c.args.gate) c.args.candidates (omega arith);
  found = c.requires.found;
}

pub loop-c-preserved : goal.loop-c-preserved
loop-c-preserved c =
    let before : AreJudgedFrom c.args.m.now c.args.words.now (value_of c.args.m.now c.args.words.now c.args.gate) c.args.candidates c.loop-c.set (c.loop-c.c - 1 + 1) =
    subst (AreJudgedFrom c.args.m.now c.args.words.now (value_of c.args.m.now c.args.words.now c.args.gate) c.args.candidates c.loop-c.set) (omega arith) c.loop-c.invariant.judged in
    record {
      judged = judged_more c.args.m.now c.args.words.now (value_of c.args.m.now c.args.words.now c.args.gate) c.args.candidates c.loop-c.set (c.loop-c.c - 1) c.in_ok-set.set before c.in_ok-set.ensures.judged;
      found = c.in_ok-set.ensures.found;
    }

pub returns-clause-bits : goal.returns-clause-bits
returns-clause-bits c =
    let done : c.loop-c.c ≡ 0 = omega arith in
    judged_all c.args.m.now c.args.words.now (value_of c.args.m.now c.args.words.now c.args.gate) c.args.candidates c.loop-c.set
    (subst (AreJudgedFrom c.args.m.now c.args.words.now (value_of c.args.m.now c.args.words.now c.args.gate) c.args.candidates c.loop-c.set) done c.loop-c.invariant.judged)
