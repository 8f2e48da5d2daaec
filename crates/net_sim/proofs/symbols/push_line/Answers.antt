use Rattle.std.proofs.Common.{◌≡◌, ◌<◌, ◌^◌, ℕ, Bool, List, length, inl, inr, refl, sym, ◌∙◌, ap, subst}
use Rattle.cubes.specs.Symbol.{number_of, symbol_of}
use Rattle.cubes.specs.Laws.Numbers.{number_below, symbol_of-number_of}
use Rattle.hs_io.specs.Lines.{line_of}
use Rattle.net_sim.specs.Symbols.{SaysSymbol}
use Rattle.net_sim.proofs.symbols.push_line.Goals as goal

pub returns-in-Nothing-clause-ok : goal.returns-in-Nothing-clause-ok
returns-in-Nothing-clause-ok c = inl (c.in-Nothing.ensures c.args.count, refl)

pub returns-in_ok-push-in-Symbol-clause-ok : goal.returns-in_ok-push-in-Symbol-clause-ok
returns-in_ok-push-in-Symbol-clause-ok c =
    let symbol = c.read_line.new.symbol in
    let width = length c.args.symbol.now in
    let line = line_of c.args.count c.args.line.now in
    let same : symbol_of width c.number_in.result ≡ symbol =
    ap (symbol_of width) c.number_in.ensures ∙ (ap (λ (n : ℕ). symbol_of n (number_of symbol)) (sym c.read_line.auto.symbol) ∙ symbol_of-number_of symbol) in
    let below : c.number_in.result < 2 ^ width =
    subst (λ (n : ℕ). n < 2 ^ width) (sym c.number_in.ensures) (subst (λ (n : ℕ). number_of symbol < 2 ^ n) c.read_line.auto.symbol (number_below symbol)) in
    inr (c.number_in.result, below, subst (λ (s : List Bool). SaysSymbol width line s) (sym same) (c.in-Symbol.ensures c.args.count), c.in_ok-push-in-Symbol.ensures.ok)
