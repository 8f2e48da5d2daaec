use Rattle.std.proofs.Common.{◌≡◌, ◌+◌, ◌*◌, length}
use Rattle.io_pairs.specs.Inner.Families.{IsPartedBelow, functions_of}
use Rattle.io_pairs.specs.Inner.Marks.{AreMarksBefore}
use Rattle.io_pairs.proofs.greatest.greatest_partner.Given as goal

abbrev pub invariant-loop-k : goal.invariant-loop-k
invariant-loop-k l = record {
  parted : IsPartedBelow l.family.members (functions_of l.family) l.k l.q l.classes.items;
  marked : AreMarksBefore (l.k + 1) l.marks;
  room : length l.marks ≡ l.family.members * length l.q;
}
