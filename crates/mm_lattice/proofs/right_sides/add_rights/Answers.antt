use Rattle.std.proofs.Common.{ℕ, sym, subst, arith}
use Rattle.hs_lattice.specs.Collection.{IsCollection, items_in}
use Rattle.partition.specs.Order.{Before}
use Rattle.partition.specs.Partition.{IsPartition}
use Rattle.mm_lattice.proofs.Found.{collecting_more, collecting_done}
use Rattle.mm_lattice.proofs.right_sides.add_rights.Goals as goal

pub loop-s-init : goal.loop-s-init
loop-s-init c = record {
  collection = subst (λ (n : ℕ). IsCollection (λ p. p) (IsPartition n) Before c.args.found.now) (sym c.states.ensures.count) c.requires.collection;
  collecting = record { rights = c.requires.found; before = c.requires.before; here = λ r less. absurd (omega arith) };
}

pub add-requires-clause-world : goal.add-requires-clause-world
add-requires-clause-world c = (c.states.ensures.some, c.states.ensures.limit)

pub add-requires-clause-item : goal.add-requires-clause-item
add-requires-clause-item c = subst (λ (n : ℕ). IsPartition n c.in_ok-right.right) (sym c.states.ensures.count) c.in_ok-right.ensures.low.lawful

pub loop-s-preserved : goal.loop-s-preserved
loop-s-preserved c = record {
  collection = c.in_ok-add.ensures.collection;
  collecting = collecting_more c.args.m.now c.args.t c.loop-s.s (items_in c.loop-s.found) (items_in c.add.new.self) c.in_ok-right.right c.loop-s-test.true c.loop-s.invariant.collecting c.in_ok-right.ensures c.in_ok-add.ensures.adds;
}

pub returns : goal.returns
returns c = record {
  collection = subst (λ (n : ℕ). IsCollection (λ p. p) (IsPartition n) Before c.loop-s.found) c.states.ensures.count c.loop-s.invariant.collection;
  found = c.loop-s.invariant.collecting.rights;
  each = collecting_done c.args.m.now c.args.t c.loop-s.s (items_in c.loop-s.found) c.loop-s.invariant.collecting c.loop-s-test.false;
}
