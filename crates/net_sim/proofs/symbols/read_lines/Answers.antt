use Rattle.std.proofs.Common.{◌≡◌, ◌+◌, ℕ, length, refl, ◌∙◌, subst, arith}
use Rattle.hs_io.specs.Lines.{line_of}
use Rattle.net_sim.specs.Symbols.{TellsRefused}
use Rattle.net_sim.specs.Inner.Numbers.{AddedLine, TellsRefusedLine}
use Rattle.net_sim.proofs.Beginning.{at_exit}
use Rattle.net_sim.proofs.ReadSymbols.{read_more, told_refused}
use Rattle.net_sim.proofs.Taking.{refused_here}
use Rattle.net_sim.proofs.symbols.read_lines.Goals as goal

pub loop-rest-preserved : goal.loop-rest-preserved
loop-rest-preserved c =
    let line = line_of (c.loop-rest.count + 1) c.first_line.result.0.now in
    let wide : length c.deref_mut.result.now ≡ c.args.inputs = c.deref_mut.ensures.len ∙ c.loop-rest.invariant.wide in
    let added : AddedLine c.args.inputs line c.loop-rest.numbers c.push_line.new.numbers =
    subst (λ (width : ℕ). AddedLine width line c.loop-rest.numbers c.push_line.new.numbers) wide c.in_ok-push_line.ensures.ok in
    record {
      wide = c.loop-rest.invariant.wide;
      read = read_more c.args.inputs c.args.bytes.now c.loop-rest.rest.now c.first_line.result.1.now c.first_line.result.0.now c.loop-rest.count c.loop-rest.numbers c.push_line.new.numbers
          c.first_line.ensures.lines c.loop-rest.invariant.read added;
      few = omega (arith, c.loop-rest.invariant.few, c.first_line.ensures.shorter);
    }

pub returns-in_err-push_line-clause-refused : goal.returns-in_err-push_line-clause-refused
returns-in_err-push_line-clause-refused c =
    let inputs = c.args.inputs in
    let count = c.loop-rest.count in
    let fail = c.in_err-push_line.field-0.0 in
    let line = line_of (count + 1) c.first_line.result.0.now in
    let read = c.loop-rest.invariant.read in
    let wide : length c.deref_mut.result.now ≡ inputs = c.deref_mut.ensures.len ∙ c.loop-rest.invariant.wide in
    let told : TellsRefusedLine inputs line fail = subst (λ (width : ℕ). TellsRefusedLine width line fail) wide c.in_err-push_line.ensures.err in
    at_exit (TellsRefused inputs c.args.bytes.now) c.from_residual-in_err-push_line.result fail c.from_residual-in_err-push_line.ensures.1
    (told_refused inputs c.args.bytes.now (count + 1) line refl
    (refused_here inputs c.args.bytes.now c.loop-rest.rest.now c.first_line.result.1.now c.first_line.result.0.now count read.done c.first_line.ensures.lines read.taken)
    fail told)
