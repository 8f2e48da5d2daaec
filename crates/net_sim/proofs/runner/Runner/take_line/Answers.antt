use Rattle.std.proofs.Common.{◌≡◌, ℕ, Bool, List, ◌++◌, length, take, drop, inl, inr, refl, sym, ◌∙◌, ap, subst}
use Rattle.std.proofs.Math.Seq.{take-append_seam}
use Rattle.hs_io.specs.Lines.{line_of}
use Rattle.net_sim.specs.Inner.RunProgress.{Goes}
use Rattle.net_sim.specs.Symbols.{IsRefusedLine, SaysSymbol}
use Rattle.net_sim.proofs.runner.Runner.take_line.Goals as goal

pub returns-in-Nothing-clause-ok : goal.returns-in-Nothing-clause-ok
returns-in-Nothing-clause-ok c = inl (c.in-Nothing.ensures c.args.number, refl, refl)

pub returns-in_ok-take_symbol-in-Symbol-clause-ok : goal.returns-in_ok-take_symbol-in-Symbol-clause-ok
returns-in_ok-take_symbol-in-Symbol-clause-ok c =
    let wide : length c.deref_mut.result.now ≡ c.args.order.now.input_count = ap length c.deref_mut.ensures.value ∙ c.requires.symbol in
    let says : SaysSymbol c.args.order.now.input_count (line_of c.args.number c.args.line.now) c.read_line.new.symbol =
    subst (λ (width : ℕ). SaysSymbol width (line_of c.args.number c.args.line.now) c.read_line.new.symbol) wide (c.in-Symbol.ensures c.args.number) in
    let bits = c.read_line.new.symbol in
    let room = c.args.self.now.symbol in
    let new = c.take_symbol.new.self in
    let long : room.len ≡ length bits = sym c.deref_mut.ensures.len ∙ sym c.read_line.auto.symbol in
    let same : take room.len (bits ++ drop (length bits) room.items) ≡ bits =
    ap (λ (n : ℕ). take n (bits ++ drop (length bits) room.items)) long ∙ take-append_seam bits (drop (length bits) room.items) in
    let goes : Goes c.args.order.now c.args.self.now.state.items bits new.answer.items new.state.items =
    subst (λ (symbol : List Bool). Goes c.args.order.now c.args.self.now.state.items symbol new.answer.items new.state.items) same c.in_ok-take_symbol-in-Symbol.ensures.goes in
    inr (bits, new.answer.items, says, goes, c.in_ok-take_symbol-in-Symbol.ensures.text)

pub returns-in-Other-clause-err : goal.returns-in-Other-clause-err
returns-in-Other-clause-err c =
    let wide : length c.deref_mut.result.now ≡ c.args.order.now.input_count = ap length c.deref_mut.ensures.value ∙ c.requires.symbol in
    (refl, subst (λ (width : ℕ). IsRefusedLine width (line_of c.args.number c.args.line.now)) wide (c.in-Other.ensures c.args.number))
