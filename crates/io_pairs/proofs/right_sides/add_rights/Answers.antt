use Rattle.std.proofs.Common.{arith}
use Rattle.hs_lattice.specs.Collection.{items_in}
use Rattle.io_pairs.specs.Inner.Families.{functions_of}
use Rattle.io_pairs.proofs.Found.{collecting_more, collecting_done}
use Rattle.io_pairs.proofs.right_sides.add_rights.Goals as goal

pub loop-x-init : goal.loop-x-init
loop-x-init c = record {
  collection = c.requires.collection;
  collecting = record { rights = c.requires.found; before = c.requires.before; here = λ w less. absurd (omega arith) };
}

pub add-requires-clause-world : goal.add-requires-clause-world
add-requires-clause-world c = c.requires.family.some_values

pub add-requires-clause-item : goal.add-requires-clause-item
add-requires-clause-item c = c.in_ok-right.ensures.lawful

pub loop-x-preserved : goal.loop-x-preserved
loop-x-preserved c =
    let family = c.args.family.now in
    record {
      collection = c.in_ok-add.ensures.collection;
      collecting = collecting_more family.members family.values (functions_of family) c.args.y c.loop-x.x (items_in c.loop-x.found) (items_in c.add.new.self) c.in_ok-right.right
          (omega arith) c.requires.y c.loop-x.invariant.collecting c.in_ok-right.ensures c.in_ok-add.ensures.adds;
    }

pub returns : goal.returns
returns c =
    let family = c.args.family.now in
    record {
      collection = c.loop-x.invariant.collection;
      found = c.loop-x.invariant.collecting.rights;
      each = collecting_done family.members family.values (functions_of family) c.args.y c.loop-x.x (items_in c.loop-x.found) c.loop-x.invariant.collecting c.loop-x-test.false;
    }
