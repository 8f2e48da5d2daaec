use Rattle.std.proofs.Common.{subst}
use Rattle.net_sim.specs.Run.{IsRunCause}
use Rattle.symbol_runs.proofs.Runs.{bad_symbol, ran_none}
use Rattle.symbol_runs.proofs.networks.ran.Goals as goal

pub returns-in-Ok : goal.returns-in-Ok
returns-in-Ok c = (ran_none c.args.net.now c.args.start.now c.args.symbols.now _ c.in-Ok.ensures.ran, c.in-Ok.ensures.ran)

pub returns-in-Err-BadSymbol : goal.returns-in-Err-BadSymbol
returns-in-Err-BadSymbol c =
    bad_symbol c.args.net.now c.args.start.now c.args.symbols.now c.in-Err-BadSymbol.line
    (subst (IsRunCause c.args.net.now c.args.start.now c.args.symbols.now) c.in-Err-BadSymbol.field-0-is c.in-Err-BadSymbol.ensures.cause)
