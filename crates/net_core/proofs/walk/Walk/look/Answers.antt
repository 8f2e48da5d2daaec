use Rattle.std.proofs.Common.{◌≡◌, ◌+◌, ◌-◌, ◌<◌, ℕ, List, [], get_or, length, sym, ◌∙◌, ap, arith}
use Rattle.std.proofs.lemmas.List.{get_or_read, length-map}
use Rattle.net_core.specs.Inner.Walk.{read_by, reads_of}
use Rattle.net_core.proofs.Stages.{found_standing, reads_at}
use Rattle.net_core.proofs.walk.Walk.look.Goals as goal

pub returns : goal.returns
returns c =
    let walk = c.args.self.now in
    let gates = c.args.gates.now in
    let reads = reads_of gates in
    let top = c.args.top in
    let gate = c.index-gates-top.result in
    let count : length reads ≡ length gates = length-map gates (λ g. g.inputs.items) in
    let w = c.requires.walk in
    let here = w.path_are top c.requires.top in
    let same : read_by reads top ≡ gate.inputs.items = reads_at gates top gate c.requires.gate c.index-gates-top.is in
    let lengths : length (read_by reads top) ≡ length gate.inputs.items = ap length same in
    let stage : get_or walk.stages.items top 0 ≡ c.index.result.now =
    sym (get_or_read walk.stages.items top c.index.result.now (omega (arith, w.count, here.0)) c.index.ensures 0) in
    let place : ℕ = get_or walk.stages.items top 0 - 1 in
    let inside : place < length (read_by reads top) =
    omega (arith, here.1, here.2, stage, lengths, c.len.ensures, gate.inputs.ok.0, c.if-looked_at-len.false) in
    let signal : get_or (read_by reads top) place 0 ≡ c.index-signal.result.now =
    ap (λ (list : List ℕ). get_or list place 0) same
    ∙ (ap (λ (n : ℕ). get_or gate.inputs.items (n - 1) 0) stage
    ∙ sym (get_or_read gate.inputs.items (c.index.result.now - 1) c.index-signal.result.now (omega (arith, inside, stage, lengths)) c.index-signal.ensures 0)) in
    let below : get_or (read_by reads top) place 0 < c.args.base + length gates =
    c.requires.within top [] (omega (arith, here.0)) place 0 inside in
    let next : ℕ = c.index-signal.result.now - c.args.base in
    found_standing c.args.base reads walk top next c.standing.result w c.requires.top (omega (arith, below, signal, count, c.if-signal-base.false)) inside
    (signal ∙ omega (arith, c.if-signal-base.false)) c.standing.ensures
