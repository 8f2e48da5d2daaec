use Rattle.std.proofs.Common.{◌≡◌, vec_len}
use Rattle.io_pairs.specs.Inner.Lists.{AreNextStates, EachList}
use Rattle.io_pairs.proofs.symbols.of_inputs.Given as goal

abbrev pub invariant-loop-s : goal.invariant-loop-s
invariant-loop-s l = record {
  count : vec_len l.functions ≡ l.s;
  each : EachList (AreNextStates l.m) l.s l.functions.items;
}
