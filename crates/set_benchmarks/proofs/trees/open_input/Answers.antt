use Rattle.std.proofs.Common.{lit<}
use Rattle.std.proofs.lemmas.Nat.{mod_below}
use Rattle.set_benchmarks.proofs.trees.open_input.Goals as goal

pub overflow_shl-bit : goal.overflow_shl-bit
overflow_shl-bit c = mod_below _ 32 (lit< tt)
