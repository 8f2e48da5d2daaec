use Rattle.std.proofs.Common.{◌≡◌, vec_len}
use Rattle.io_pairs.specs.Inner.Lists.{EachList}
use Rattle.io_pairs.specs.Inner.Words.{AreNumbersOf}
use Rattle.io_pairs.proofs.states.all_numbers.Given as goal

abbrev pub invariant-loop-s : goal.invariant-loop-s
invariant-loop-s l = record {
  count : vec_len l.states ≡ l.s;
  each : EachList (AreNumbersOf l.m) l.s l.states.items;
}
