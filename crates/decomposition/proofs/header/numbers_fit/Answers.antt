use Rattle.std.proofs.Common.{arith}
use Rattle.std.proofs.lemmas.List.{get_or_default}
use Rattle.decomposition.proofs.header.numbers_fit.Goals as goal

pub returns : goal.returns
returns c = λ k d within. omega (arith, c.type_inv.numbers k, get_or_default c.args.numbers.now k 0 d within)
