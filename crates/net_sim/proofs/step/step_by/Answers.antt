use Rattle.std.proofs.Common.{◌≡◌, ◌+◌, ◌++◌, Bool, List, length, map, drop, sym, ◌∙◌, ap, arith}
use Rattle.std.proofs.lemmas.List.{length-map}
use Rattle.net_core.specs.Order.{IsNumbered}
use Rattle.net_core.specs.SoundNetwork.{drivers_of}
use Rattle.net_core.specs.Laws.Drivers.{count_drivers}
use Rattle.net_core.specs.Laws.Zipped.{zip_lengths}
use Rattle.std.specs.Prelude.{Some, slice_get}
use Rattle.net_sim.specs.Inner.GateValues.{evaluated}
use Rattle.net_sim.proofs.Stepped.{final, put_both, read_in, stepped}
use Rattle.net_sim.proofs.step.step_by.Goals as goal

pub returns : goal.returns
returns c =
    λ N sound is.
    let order = c.args.order.now in
    let symbol = c.args.x.now in
    let state = c.args.state.now in
    let inputs = map (λ latch. latch.input) N.latches in
    let rest : List Bool = drop (length symbol + length state) c.put.new.signals in
    let put : c.put-2.new.signals ≡ symbol ++ (state ++ rest) =
    put_both symbol state c.args.scratch.now c.put.new.signals c.put-2.new.signals c.put.ensures c.put-2.ensures in
    let same_inputs : length symbol ≡ length N.inputs = c.requires.inputs ∙ is.inputs in
    let same_latches : length state ≡ length N.latches = c.requires.latches ∙ is.latches in
    let gates = zip_lengths (IsNumbered (drivers_of N)) N.gates order.gates.items is.gates in
    let long : length (symbol ++ (state ++ rest)) ≡ length (drivers_of N) =
    sym (ap length put) ∙ omega (arith, c.requires.signals, order.counted, is.inputs, is.latches, gates, count_drivers N) in
    let evaluated_is : c.evaluate.new.signals ≡ final N sound order is state symbol rest same_inputs same_latches long =
    c.evaluate.ensures ∙ ap (evaluated (order.input_count + order.latch_count) order.gates.items order.sequence.items) put in
    let outputs : length order.output_signals.items ≡ length c.args.z.now = sym c.requires.outputs in
    let latches : length order.latch_signals.items ≡ length state =
    zip_lengths (λ place item. slice_get (drivers_of N) place ≡ Some item) order.latch_signals.items inputs is.latch_inputs ∙ (length-map N.latches (λ latch. latch.input) ∙ sym same_latches) in
    stepped N sound order is state symbol rest same_inputs same_latches long c.read_signals.new.bits c.read_signals-2.new.bits
    (read_in c.evaluate.new.signals (final N sound order is state symbol rest same_inputs same_latches long) c.read_signals.new.bits order.output_signals.items c.deref.result.now (length c.args.z.now) c.read_signals.ensures c.deref.ensures.value outputs evaluated_is)
    (read_in c.evaluate.new.signals (final N sound order is state symbol rest same_inputs same_latches long) c.read_signals-2.new.bits order.latch_signals.items c.deref-2.result.now (length state) c.read_signals-2.ensures c.deref-2.ensures.value latches evaluated_is)
