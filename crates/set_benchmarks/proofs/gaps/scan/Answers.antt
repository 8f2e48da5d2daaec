use Rattle.std.proofs.Common.{◌<◌, ◌^◌, arith}
use Rattle.std.proofs.lemmas.Nat.{pow_below}
use Rattle.set_benchmarks.proofs.gaps.scan.Goals as goal

pub count_held-held-requires-clause-symbol : goal.count_held-held-requires-clause-symbol
count_held-held-requires-clause-symbol c =
    let symbols : 2 ^ 0 < 2 ^ c.args.width = pow_below 0 c.args.width c.requires.positive in
    omega (arith, symbols)
