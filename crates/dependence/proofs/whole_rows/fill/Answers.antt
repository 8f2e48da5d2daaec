use Rattle.std.proofs.Common.{◌∙◌, refl, arith}
use Rattle.dependence.proofs.FilledRows.{first_part, next_part}
use Rattle.dependence.proofs.whole_rows.fill.Goals as goal

pub loop-b-init : goal.loop-b-init
loop-b-init c = record {
  rows = c.in_ok-fill_part.ensures.rows;
  each = first_part c.args.m.now c.args.s c.args.rows.now.items c.fill_part.new.rows.items c.in_ok-fill_part.ensures;
  own = λ specified. refl;
}

pub loop-b-preserved : goal.loop-b-preserved
loop-b-preserved c = record {
  rows = c.in_ok-fill_part-2.ensures.rows;
  each = next_part c.args.m.now c.args.s c.loop-b.rows.items c.fill_part-in-loop-b.new.rows.items c.loop-b.b c.loop-b.invariant.each c.in_ok-fill_part-2.ensures;
  own = λ specified. c.in_ok-fill_part-2.ensures.own specified ∙ c.loop-b.invariant.own specified;
}

pub returns-clause-each : goal.returns-clause-each
returns-clause-each c x part counted = c.loop-b.invariant.each x part (omega arith)

pub returns-clause-own : goal.returns-clause-own
returns-clause-own c specified = c.loop-b.invariant.own specified ∙ c.in_ok-fill_part.ensures.own specified
