use Rattle.std.proofs.Common.{◌≡◌, vec_len}
use Rattle.io_pairs.specs.Inner.Lists.{AreAtPlace, EachList}
use Rattle.io_pairs.proofs.states.of_outputs.Given as goal

abbrev pub invariant-loop-x : goal.invariant-loop-x
invariant-loop-x l = record {
  count : vec_len l.functions ≡ l.x;
  each : EachList (AreAtPlace l.states.items) l.x l.functions.items;
}
