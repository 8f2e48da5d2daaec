use Rattle.std.proofs.Common.{◌≡◌, Some, ap, ◌∙◌, sym}
use Rattle.std.proofs.lemmas.Option.{MatchOption-at_none, MatchOption-at_some}
use Rattle.answers.specs.declared.numbers.Answer.TheVariants.{NoMemory, ReadFault, WriteFault}
use Rattle.answers.specs.Delivery.{LinePut}
use Rattle.hs_io.specs.Counts.{Rose}
use Rattle.hsdec_program.specs.Pages.{page_asked}
use Rattle.hsdec_program.specs.Status.{Seen}
use Rattle.hsdec_program.proofs.Answering.{answer_of_want, answer_to_job, answer_to_page, page_answer, page_faulted, page_unread, wanting}
use Rattle.hsdec_program.proofs.program.answer_to_words.Goals as goal

-- ---- words that ask for no page
pub returns-in-Ok-None-clause-answer : goal.returns-in-Ok-None-clause-answer
returns-in-Ok-None-clause-answer g c =
    let seen : Seen = record {
      holds = g.F.Shelf.holds c.args.shelf.now;
      shelf_faulted = Rose (g.F.Shelf.faults c.args.shelf.now) (g.F.Shelf.faults c.run.new.shelf);
      out_faulted = Rose (g.O.Sink.faults c.args.out.now) (g.O.Sink.faults c.run.new.out);
      out_before = g.O.Sink.given c.args.out.now;
      out_after = g.O.Sink.given c.run.new.out;
      out_stays = c.run.new.out ≡ c.args.out.now;
      err_stays = c.run.new.err ≡ c.args.err.now;
      err_takes = λ line. LinePut line (g.E.Sink.given c.args.err.now) (g.E.Sink.given c.run.new.err) (g.E.Sink.faults c.args.err.now) (g.E.Sink.faults c.run.new.err);
    } in
    let none = MatchOption-at_none _ _ c.in-Ok-None.field-0-is c.in-Ok-None.ensures in
    answer_to_job c.args.words.now seen c.run.result none (record {
      usage = c.run.ensures.usage;
      comes = c.run.ensures.comes;
      all_come = c.run.ensures.all_come;
      complete = c.run.ensures.complete;
      headline = c.run.ensures.headline;
      text = c.run.ensures.text;
      evidence = c.run.ensures.evidence;
      front = c.run.ensures.front;
      refused = c.run.ensures.refused;
    })

-- ---- words that ask for a page
pub returns-in-Ok-Some-clause-answer : goal.returns-in-Ok-Some-clause-answer
returns-in-Ok-Some-clause-answer g c =
    let seen : Seen = record {
      holds = g.F.Shelf.holds c.args.shelf.now;
      shelf_faulted = Rose (g.F.Shelf.faults c.args.shelf.now) (g.F.Shelf.faults c.args.shelf.now);
      out_faulted = Rose (g.O.Sink.faults c.args.out.now) (g.O.Sink.faults c.deliver.new.out);
      out_before = g.O.Sink.given c.args.out.now;
      out_after = g.O.Sink.given c.deliver.new.out;
      out_stays = c.deliver.new.out ≡ c.args.out.now;
      err_stays = c.deliver.new.err ≡ c.args.err.now;
      err_takes = λ line. LinePut line (g.E.Sink.given c.args.err.now) (g.E.Sink.given c.deliver.new.err) (g.E.Sink.faults c.args.err.now) (g.E.Sink.faults c.deliver.new.err);
    } in
    let is : c.in-Ok-Some.field-0 ≡ Some c.in-Ok-Some.page = cc in
    let asked : page_asked c.args.words.now ≡ Some c.in-Ok-Some.page.items = MatchOption-at_some _ (λ page. page_asked c.args.words.now ≡ Some page.items) c.in-Ok-Some.page is c.in-Ok-Some.ensures in
    answer_to_page c.args.words.now c.from.result seen c.deliver.result (asked ∙ ap Some (sym c.from.ensures)) (page_answer c.from.result seen c.deliver.result c.deliver.ensures.done c.deliver.ensures.refused)

pub returns-in-Ok-Some-clause-read_fault : goal.returns-in-Ok-Some-clause-read_fault
returns-in-Ok-Some-clause-read_fault g c =
    let seen : Seen = record {
      holds = g.F.Shelf.holds c.args.shelf.now;
      shelf_faulted = Rose (g.F.Shelf.faults c.args.shelf.now) (g.F.Shelf.faults c.args.shelf.now);
      out_faulted = Rose (g.O.Sink.faults c.args.out.now) (g.O.Sink.faults c.deliver.new.out);
      out_before = g.O.Sink.given c.args.out.now;
      out_after = g.O.Sink.given c.deliver.new.out;
      out_stays = c.deliver.new.out ≡ c.args.out.now;
      err_stays = c.deliver.new.err ≡ c.args.err.now;
      err_takes = λ line. LinePut line (g.E.Sink.given c.args.err.now) (g.E.Sink.given c.deliver.new.err) (g.E.Sink.faults c.args.err.now) (g.E.Sink.faults c.deliver.new.err);
    } in
    λ e. absurd (page_unread c.from.result seen c.deliver.result c.deliver.ensures.done c.deliver.ensures.refused e)

pub returns-in-Ok-Some-clause-write_fault : goal.returns-in-Ok-Some-clause-write_fault
returns-in-Ok-Some-clause-write_fault g c =
    let seen : Seen = record {
      holds = g.F.Shelf.holds c.args.shelf.now;
      shelf_faulted = Rose (g.F.Shelf.faults c.args.shelf.now) (g.F.Shelf.faults c.args.shelf.now);
      out_faulted = Rose (g.O.Sink.faults c.args.out.now) (g.O.Sink.faults c.deliver.new.out);
      out_before = g.O.Sink.given c.args.out.now;
      out_after = g.O.Sink.given c.deliver.new.out;
      out_stays = c.deliver.new.out ≡ c.args.out.now;
      err_stays = c.deliver.new.err ≡ c.args.err.now;
      err_takes = λ line. LinePut line (g.E.Sink.given c.args.err.now) (g.E.Sink.given c.deliver.new.err) (g.E.Sink.faults c.args.err.now) (g.E.Sink.faults c.deliver.new.err);
    } in
    page_faulted c.from.result seen c.deliver.result c.deliver.ensures.done c.deliver.ensures.refused

-- ---- memory that ran out
pub returns-in-Err-clause-answer : goal.returns-in-Err-clause-answer
returns-in-Err-clause-answer g c =
    let seen : Seen = record {
      holds = g.F.Shelf.holds c.args.shelf.now;
      shelf_faulted = Rose (g.F.Shelf.faults c.args.shelf.now) (g.F.Shelf.faults c.args.shelf.now);
      out_faulted = Rose (g.O.Sink.faults c.args.out.now) (g.O.Sink.faults c.deliver-in-Err.new.out);
      out_before = g.O.Sink.given c.args.out.now;
      out_after = g.O.Sink.given c.deliver-in-Err.new.out;
      out_stays = c.deliver-in-Err.new.out ≡ c.args.out.now;
      err_stays = c.deliver-in-Err.new.err ≡ c.args.err.now;
      err_takes = λ line. LinePut line (g.E.Sink.given c.args.err.now) (g.E.Sink.given c.deliver-in-Err.new.err) (g.E.Sink.faults c.args.err.now) (g.E.Sink.faults c.deliver-in-Err.new.err);
    } in
    let want = wanting seen c.deliver-in-Err.result c.deliver-in-Err.ensures.done c.deliver-in-Err.ensures.refused in
    answer_of_want seen c.deliver-in-Err.result want.0 want.1 c.args.words.now

pub returns-in-Err-clause-read_fault : goal.returns-in-Err-clause-read_fault
returns-in-Err-clause-read_fault g c =
    let seen : Seen = record {
      holds = g.F.Shelf.holds c.args.shelf.now;
      shelf_faulted = Rose (g.F.Shelf.faults c.args.shelf.now) (g.F.Shelf.faults c.args.shelf.now);
      out_faulted = Rose (g.O.Sink.faults c.args.out.now) (g.O.Sink.faults c.deliver-in-Err.new.out);
      out_before = g.O.Sink.given c.args.out.now;
      out_after = g.O.Sink.given c.deliver-in-Err.new.out;
      out_stays = c.deliver-in-Err.new.out ≡ c.args.out.now;
      err_stays = c.deliver-in-Err.new.err ≡ c.args.err.now;
      err_takes = λ line. LinePut line (g.E.Sink.given c.args.err.now) (g.E.Sink.given c.deliver-in-Err.new.err) (g.E.Sink.faults c.args.err.now) (g.E.Sink.faults c.deliver-in-Err.new.err);
    } in
    let want = wanting seen c.deliver-in-Err.result c.deliver-in-Err.ensures.done c.deliver-in-Err.ensures.refused in
    λ e. absurd (let f : NoMemory ≡ ReadFault = sym want.0 ∙ e in cc)

pub returns-in-Err-clause-write_fault : goal.returns-in-Err-clause-write_fault
returns-in-Err-clause-write_fault g c =
    let seen : Seen = record {
      holds = g.F.Shelf.holds c.args.shelf.now;
      shelf_faulted = Rose (g.F.Shelf.faults c.args.shelf.now) (g.F.Shelf.faults c.args.shelf.now);
      out_faulted = Rose (g.O.Sink.faults c.args.out.now) (g.O.Sink.faults c.deliver-in-Err.new.out);
      out_before = g.O.Sink.given c.args.out.now;
      out_after = g.O.Sink.given c.deliver-in-Err.new.out;
      out_stays = c.deliver-in-Err.new.out ≡ c.args.out.now;
      err_stays = c.deliver-in-Err.new.err ≡ c.args.err.now;
      err_takes = λ line. LinePut line (g.E.Sink.given c.args.err.now) (g.E.Sink.given c.deliver-in-Err.new.err) (g.E.Sink.faults c.args.err.now) (g.E.Sink.faults c.deliver-in-Err.new.err);
    } in
    let want = wanting seen c.deliver-in-Err.result c.deliver-in-Err.ensures.done c.deliver-in-Err.ensures.refused in
    λ e. absurd (let f : NoMemory ≡ WriteFault = sym want.0 ∙ e in cc)
