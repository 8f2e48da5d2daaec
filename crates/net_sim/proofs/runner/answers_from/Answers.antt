use Rattle.std.proofs.Common.{◌+◌, refl, arith}
use Rattle.hs_io.specs.Lines.{line_of}
use Rattle.net_sim.specs.Inner.Failures.{TellsSymbol}
use Rattle.net_sim.proofs.Beginning.{at_exit}
use Rattle.net_sim.proofs.Progress.{run_begun, run_more, told_line}
use Rattle.net_sim.proofs.Taking.{refused_here}
use Rattle.net_sim.proofs.runner.answers_from.Goals as goal

pub loop-rest-init : goal.loop-rest-init
loop-rest-init c =
    record {
      fits = c.in_ok-runner.ensures.fits;
      ran = run_begun c.args.order.now c.args.state.items c.args.symbols.now c.in_ok-runner.runner c.in_ok-runner.ensures.state c.in_ok-runner.ensures.text;
      few = omega arith;
    }

pub loop-rest-preserved : goal.loop-rest-preserved
loop-rest-preserved c =
    record {
      fits = c.in_ok-take_line.ensures.fits;
      ran = run_more c.args.order.now c.args.state.items c.args.symbols.now c.loop-rest.rest.now c.first_line.result.1.now c.first_line.result.0.now c.loop-rest.count c.loop-rest.runner
          c.first_line.ensures.lines c.loop-rest.invariant.ran c.take_line.new.self c.in_ok-take_line.ensures.ok;
      few = omega (arith, c.loop-rest.invariant.few, c.first_line.ensures.shorter);
    }

pub returns-in_err-take_line-clause-err : goal.returns-in_err-take_line-clause-err
returns-in_err-take_line-clause-err c =
    let width = c.args.order.now.input_count in
    let count = c.loop-rest.count in
    let line = line_of (count + 1) c.first_line.result.0.now in
    at_exit (TellsSymbol width c.args.symbols.now) c.from_residual-in_err-take_line.result c.in_err-take_line.field-0.0 c.from_residual-in_err-take_line.ensures.1
    (told_line width (count + 1) c.args.symbols.now line refl
    (refused_here width c.args.symbols.now c.loop-rest.rest.now c.first_line.result.1.now c.first_line.result.0.now count c.loop-rest.invariant.ran.done c.first_line.ensures.lines c.loop-rest.invariant.ran.taken)
    c.in_err-take_line.field-0.0 c.in_err-take_line.ensures.err)
