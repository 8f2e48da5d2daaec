use Rattle.std.proofs.Common.{ℕ, List, get_or, refl, ap, ◌∙◌, subst}
use Rattle.std.proofs.lemmas.Result.{on_ok_weaker}
use Rattle.gate_rows.specs.Latches.{AreLatches}
use Rattle.realise.proofs.GateLists.{network_realised}
use Rattle.realise.proofs.code_network.fill.Goals as goal

pub returns : goal.returns
returns c =
    let words : List ℕ = c.args.codes.now.words in
    let bits = c.args.codes.now.bits in
    let names = c.args.names.now in
    let start = ap (λ (list : List ℕ). get_or list c.reset.result 0) c.as_slice.ensures ∙ ap (λ (k : ℕ). get_or words k 0) c.reset.ensures.number in
    let latches = subst (λ (word : ℕ). AreLatches names bits word c.in_ok-net-3.field-0) start c.in_ok-net-3.ensures in
    on_ok_weaker c.add_output_gates.result (λ added.
    network_realised c.args.m.now bits words c.args.reads.now names _ c.args.net.now.gates c.add_latch_gates.new.gates c.add_output_gates.new.gates c.requires.bare c.requires.reads
    c.in_ok-add_latch_gates.ensures added latches (c.in_ok-net.ensures ∙ c.as_slice-2.ensures) (c.in_ok-net-2.ensures ∙ c.as_slice-3.ensures) refl)
    c.add_output_gates.ensures
