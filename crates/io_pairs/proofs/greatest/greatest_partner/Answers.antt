use Rattle.std.proofs.Common.{◌<◌, ℕ, length, refl, arith}
use Rattle.state_rows.specs.Laws.Lists.{list_at}
use Rattle.io_pairs.specs.Inner.Families.{functions_of}
use Rattle.io_pairs.proofs.Parting.{parted_more}
use Rattle.io_pairs.proofs.greatest.greatest_partner.Goals as goal

pub loop-k-preserved : goal.loop-k-preserved
loop-k-preserved c =
    let functions = functions_of c.args.family.now in
    let members = c.args.family.now.members in
    let k = c.loop-k.k in
    let q = c.args.q.now in
    let in_k : k < length functions = omega (arith, c.loop-k-test.true, c.len-k-end.ensures) in
    let row = list_at functions k k c.index.result.now c.as_slice-function.result.now in_k refl c.index.ensures c.as_slice-function.ensures in
    record {
      parted = parted_more members functions k q c.as_slice.result.now c.loop-k.classes.items c.as_slice-function.result.now c.in_ok-classes-2.classes.items c.as_slice.ensures.value row c.loop-k.invariant.parted
          c.in_ok-classes-2.ensures.split;
      marked = c.in_ok-classes-2.ensures.marks;
      room = omega arith;
    }
