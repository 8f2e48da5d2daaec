use Rattle.std.proofs.Common.{◌≡◌, List, ℕ, map, length}
use Rattle.state_codes.specs.Split.{given_parts}
use Rattle.state_codes.proofs.split.own_carriers.Given as goal

abbrev pub invariant-loop-j : goal.invariant-loop-j
invariant-loop-j l = record {
  count : l.j-iterator.count ≡ length l.yielded;
  list : l.parts ≡ given_parts l.count 0 (map (λ (item : ℕ × List ℕ). item.1) l.yielded);
}
