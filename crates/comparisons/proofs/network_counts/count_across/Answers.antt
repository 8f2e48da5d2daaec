use Rattle.std.proofs.Common.{ℕ, List, length, sym, ap, ◌∙◌, arith}
use Rattle.blif_out.specs.declared.header.LatchNote.{LatchNote}
use Rattle.net_core.specs.declared.Gate.{Gate}
use Rattle.net_core.specs.declared.Latch.{Latch}
use Rattle.comparisons.proofs.Noted.{across_all, across_more}
use Rattle.comparisons.specs.Counts.{outputs_apart, reads_across, reads_of}
use Rattle.comparisons.proofs.network_counts.count_across.Goals as goal

pub loop-i-preserved : goal.loop-i-preserved
loop-i-preserved c =
    let gates = c.as_slice-gates.result.now in
    let latch = c.index-latches-i.result in
    across_more c.as_slice-latches.result.now c.args.notes.now (ap (λ (list : List Latch). length list) c.as_slice-latches.ensures ∙ c.requires)
    c.loop-i.i latch c.index-notes-i.result c.loop-i-test.true (sym c.index-latches-i.is) (sym c.index-notes-i.is)
    gates c.loop-i.count c.in_ok-reads.reads c.in_ok-count.count c.loop-i.invariant
    (c.in_ok-reads.ensures
    ∙ ap (λ (signal : List ℕ). reads_of gates signal c.as_slice.result.now) (c.bytes.ensures ∙ ap (λ (l : Latch). l.input) (sym c.index-latches-i.is))
    ∙ ap (λ (outputs : List (List ℕ)). reads_of gates latch.input outputs)
    (c.as_slice.ensures ∙ c.in_ok-outputs.ensures ∙ ap (λ (n : LatchNote). outputs_apart n.part c.as_slice-latches.result.now c.args.notes.now) (sym c.index-notes-i.is)))
    c.in_ok-count.ensures

pub returns : goal.returns
returns c =
    across_all c.as_slice-latches.result.now c.args.notes.now c.loop-i.i (omega (arith, c.loop-i-test.false)) c.as_slice-gates.result.now c.loop-i.count c.loop-i.invariant
    ∙ ap (λ (gates : List Gate). reads_across gates c.as_slice-latches.result.now c.args.notes.now) c.as_slice-gates.ensures
    ∙ ap (λ (latches : List Latch). reads_across c.args.net.now.gates latches c.args.notes.now) c.as_slice-latches.ensures
