use Rattle.std.proofs.Common.{ℕ, sym, subst, ◌∙◌, arith}
use Rattle.std.proofs.lemmas.Bool.{true≢false}
use Rattle.hs_lattice.specs.Collection.{IsCollection, items_in}
use Rattle.partition.specs.Order.{Before}
use Rattle.partition.specs.Partition.{IsPartition}
use Rattle.closed_lattice.proofs.Collected.{collecting_more, collecting_left, collecting_done}
use Rattle.closed_lattice.proofs.principal_list.add_principals.Goals as goal
use Rattle.closed_lattice.proofs.principal_list.add_principals.Goals.{then-same+in_ok-p+in_ok-add, else-same}

pub loop-s-init : goal.loop-s-init
loop-s-init c = record {
  known = c.requires.known;
  collection = subst (λ (n : ℕ). IsCollection (λ p. p) (IsPartition n) Before c.args.found.now) (sym c.states.ensures.count) c.requires.collection;
  collecting = record { members = c.requires.found; before = c.requires.before; here = λ r less. absurd (omega arith) };
}

pub learn-requires-clause-s : goal.learn-requires-clause-s
learn-requires-clause-s c = omega arith

pub add-requires-clause-world : goal.add-requires-clause-world
add-requires-clause-world c = (c.states.ensures.some, c.states.ensures.limit)

pub add-requires-clause-item : goal.add-requires-clause-item
add-requires-clause-item c = subst (λ (n : ℕ). IsPartition n c.in_ok-p.p) (sym c.states.ensures.count) c.in_ok-p.ensures.principal.lawful

pub loop-s-preserved : goal.loop-s-preserved
loop-s-preserved c =
    elim c.if-same.branch [
      | then-same+in_ok-p+in_ok-add w ↦
          rw (w.known-is, w.found-is)
          (record {
            known = w.in_ok-p.ensures.known;
            collection = w.in_ok-add.ensures.collection;
            collecting = collecting_more c.args.m.now c.args.top.now c.args.t c.loop-s.s (items_in c.loop-s.found) (items_in w.add.new.self) w.in_ok-p.p c.loop-s-test.true
                (c.same.ensures.0 w.if-same.true) c.loop-s.invariant.collecting w.in_ok-p.ensures.principal w.in_ok-add.ensures.adds;
          })
      | else-same w ↦
          rw (w.known-is, w.found-is)
          (record {
            known = c.loop-s.invariant.known;
            collection = c.loop-s.invariant.collection;
            collecting = collecting_left c.args.m.now c.args.top.now c.args.t c.loop-s.s (items_in c.loop-s.found)
                (λ held. true≢false (sym (c.same.ensures.1 held) ∙ w.if-same.false)) c.loop-s.invariant.collecting;
          })
    ]

pub returns : goal.returns
returns c = record {
  known = c.loop-s.invariant.known;
  collection = subst (λ (n : ℕ). IsCollection (λ p. p) (IsPartition n) Before c.loop-s.found) c.states.ensures.count c.loop-s.invariant.collection;
  found = c.loop-s.invariant.collecting.members;
  each = collecting_done c.args.m.now c.args.top.now c.args.t c.loop-s.s (items_in c.loop-s.found) c.loop-s.invariant.collecting c.loop-s-test.false;
}
