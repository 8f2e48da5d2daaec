use Rattle.std.proofs.Common.{◌≡◌, ℕ, ◌<◌, [], get_or, length}
use Rattle.cover_split.specs.Inner.Holders.{AreHolders}
use Rattle.cover_split.proofs.holders.holders_of_states.Given as goal

abbrev pub invariant-loop-s : goal.invariant-loop-s
invariant-loop-s l = record {
  size : length l.lists.items ≡ l.s;
  right : (t : ℕ) → t < l.s → AreHolders l.blocks t (length l.blocks) (get_or l.lists.items t []);
}
