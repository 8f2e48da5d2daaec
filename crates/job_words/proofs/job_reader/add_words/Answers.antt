use Rattle.std.proofs.Common.{arith}
use Rattle.job_words.specs.Inner.Draft.{item_of}
use Rattle.job_words.specs.Table.{row_of}
use Rattle.job_words.proofs.Reading.{job_at, lacks_at, reads_on}
use Rattle.job_words.proofs.job_reader.add_words.Goals as goal

pub loop-i-preserved : goal.loop-i-preserved
loop-i-preserved c =
    record {
      reading = reads_on (row_of c.args.form.now) c.args.words.now c.loop-i.i c.width-i.result c.loop-i.draft c.accept.new.self (item_of c.item_at-item.result) c.loop-i.invariant.reading c.item_at-item.ensures.item c.width-i.ensures c.in-Ok.ensures.ok;
      within = omega (arith, c.width-i.ensures, c.item_at-item.ensures.within);
    }

pub returns-clause-job : goal.returns-clause-job
returns-clause-job c =
    job_at (row_of c.args.form.now) c.args.words.now c.loop-i.i c.loop-i.draft c.loop-i.invariant.reading (omega (arith, c.count.ensures, c.loop-i-test.false)) c.if-draft-form.false

pub returns-then-draft-form-clause-usage : goal.returns-then-draft-form-clause-usage
returns-then-draft-form-clause-usage c =
    lacks_at _ (row_of c.args.form.now) c.args.words.now c.loop-i.i c.loop-i.draft c.usage-then-draft-form.result c.loop-i.invariant.reading (omega (arith, c.count.ensures, c.loop-i-test.false)) c.if-draft-form.true c.usage-then-draft-form.ensures
