use Rattle.std.proofs.Common.{inl, inr}
use Rattle.closed_lattice.proofs.Collected.{same_sizes}
use Rattle.closed_lattice.proofs.Sifting.{sifting_taken, sifting_left, sifted}
use Rattle.closed_lattice.proofs.listing.least_of.Goals as goal

pub add_least-requires-clause-lawful : goal.add_least-requires-clause-lawful
add_least-requires-clause-lawful c = (same_sizes c.args.m.now c.args.found.now c.requires c.loop-p.p-index c.p-item.result c.loop-p-test.true c.p-item.is).0

pub add_least-requires-clause-found : goal.add_least-requires-clause-found
add_least-requires-clause-found c = (same_sizes c.args.m.now c.args.found.now c.requires c.loop-p.p-index c.p-item.result c.loop-p-test.true c.p-item.is).1

pub loop-p-preserved : goal.loop-p-preserved
loop-p-preserved c =
    let F = c.args.m.now in
    let found = c.args.found.now in
    elim c.in_ok-add_least.ensures [
      | inl (least, same) ↦
          rw same (sifting_taken F found c.requires c.loop-p.list.items c.loop-p.p-index c.p-item.result c.loop-p.invariant c.loop-p-test.true c.p-item.is least)
      | inr (other, same) ↦
          rw same (sifting_left F found c.requires c.loop-p.list.items c.loop-p.p-index c.p-item.result c.loop-p.invariant c.loop-p-test.true c.p-item.is other)
    ]

pub returns : goal.returns
returns c = sifted c.args.m.now c.args.found.now c.requires c.loop-p.list.items c.loop-p.p-index c.loop-p.invariant c.loop-p-test.false
