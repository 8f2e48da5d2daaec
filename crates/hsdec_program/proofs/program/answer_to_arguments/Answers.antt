-- The answer to the words of the arguments; where they could not be made, memory was wanting.
use Rattle.std.proofs.Common.{◌≡◌, [], sym, ◌∙◌}
use Rattle.answers.specs.declared.numbers.Answer.TheVariants.{NoMemory, ReadFault, WriteFault}
use Rattle.answers.specs.Delivery.{LinePut}
use Rattle.hs_io.specs.Counts.{Rose}
use Rattle.hsdec_program.specs.Status.{Seen}
use Rattle.hsdec_program.proofs.Answering.{answer_of_want, wanting}
use Rattle.hsdec_program.proofs.program.answer_to_arguments.Goals as goal

pub returns-in-Err : goal.returns-in-Err
returns-in-Err g c =
    let seen : Seen = record {
      holds = g.F.Shelf.holds c.args.shelf.now;
      shelf_faulted = Rose (g.F.Shelf.faults c.args.shelf.now) (g.F.Shelf.faults c.args.shelf.now);
      out_faulted = Rose (g.O.Sink.faults c.args.out.now) (g.O.Sink.faults c.deliver.new.out);
      out_before = g.O.Sink.given c.args.out.now;
      out_after = g.O.Sink.given c.deliver.new.out;
      out_stays = c.deliver.new.out ≡ c.args.out.now;
      err_stays = c.deliver.new.err ≡ c.args.err.now;
      err_takes = λ line. LinePut line (g.E.Sink.given c.args.err.now) (g.E.Sink.given c.deliver.new.err) (g.E.Sink.faults c.args.err.now) (g.E.Sink.faults c.deliver.new.err);
    } in
    let want = wanting seen c.deliver.result c.deliver.ensures.done c.deliver.ensures.refused in (
      [],
      record {
        words_told = λ had. absurd (had want.0);
        answer = answer_of_want seen c.deliver.result want.0 want.1 [];
        read_fault = λ e. absurd (let f : NoMemory ≡ ReadFault = sym want.0 ∙ e in cc);
        write_fault = λ e. absurd (let f : NoMemory ≡ WriteFault = sym want.0 ∙ e in cc);
        untouched = c.deliver.ensures.untouched;
        silent = c.deliver.ensures.silent;
      },
    )

pub returns-in-Ok : goal.returns-in-Ok
returns-in-Ok g c = (
  c.in-Ok.words,
  record {
    words_told = λ had. c.in-Ok.ensures.told;
    answer = c.answer_to_words.ensures.answer;
    read_fault = c.answer_to_words.ensures.read_fault;
    write_fault = c.answer_to_words.ensures.write_fault;
    untouched = c.answer_to_words.ensures.untouched;
    silent = c.answer_to_words.ensures.silent;
  },
)
