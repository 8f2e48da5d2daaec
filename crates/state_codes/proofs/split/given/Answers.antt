use Rattle.std.proofs.Common.{sym, subst, vec_len, length, ap, arith}
use Rattle.std.specs.List.{All}
use Rattle.state_codes.specs.Split.{IsPart}
use Rattle.state_codes.specs.Laws.Splits.{given_parts-lawful, given_parts-length}
use Rattle.state_codes.proofs.split.given.Goals as goal

pub returns-clause-lawful : goal.returns-clause-lawful
returns-clause-lawful c n all =
    subst (All (IsPart n)) (sym c.in_ok-own_carriers.ensures) (given_parts-lawful n (vec_len c.args.parts) 0 c.args.parts.items all)

pub returns-clause-few : goal.returns-clause-few
returns-clause-few c =
    omega (arith, ap length c.in_ok-own_carriers.ensures, given_parts-length (vec_len c.args.parts) 0 c.args.parts.items, c.requires)
