use Rattle.std.proofs.Common.{length}
use Rattle.partition.specs.Partition.{zero_of}
use Rattle.pair_operators.specs.Laws.Growth.{row_taken}
use Rattle.mm_lattice.specs.Generators.{IsRightOf}
use Rattle.mm_lattice.specs.Top.{IsBelowOne}
use Rattle.mm_lattice.proofs.top.grown_rights.Goals as goal

pub loop-s-preserved : goal.loop-s-preserved
loop-s-preserved c =
    let n = length c.args.m.now.states in
    record {
      lawful = c.in_ok-grown-2.ensures.lawful;
      grown = row_taken n (IsRightOf c.args.m.now) IsBelowOne (zero_of n) c.loop-s.grown c.in_ok-grown-2.grown c.loop-s.s c.loop-s.invariant.grown c.in_ok-grown-2.ensures.grown;
    }
