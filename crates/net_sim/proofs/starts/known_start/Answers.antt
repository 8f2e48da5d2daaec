use Rattle.std.proofs.Common.{Some, sym, ◌∙◌, ap}
use Rattle.std.proofs.lemmas.Option.{slice_get-get_or}
use Rattle.net_sim.proofs.Beginning.{known_before}
use Rattle.net_sim.proofs.starts.known_start.Goals as goal

pub returns-in-None-clause-err : goal.returns-in-None-clause-err
returns-in-None-clause-err c =
    let latches = c.args.latches.now in
    let i = c.loop-latch.latch-index in
    let latch = c.latch-item.result in
    record {
      place = i;
      latch = latch;
      stands = slice_get-get_or latches i latch c.loop-latch-test.true ∙ ap Some (sym c.latch-item.is);
      is = sym (c.in_ok-new-in-None.ensures ∙ c.bytes.ensures);
      unknown = sym c.known.ensures ∙ c.in-None.is;
      known_before = λ k other lt at. known_before latches i c.loop-latch.state k other c.loop-latch.invariant lt at;
    }
