-- What a line of a file of symbols says.
use Rattle.std.specs.Prelude.{◌≡◌, ℕ, Bool, true, List}
use Rattle.hs_io.specs.declared.lines.Line.{Line}
use Rattle.hs_io.specs.Lines.{is_skipped}
use Rattle.net_sim.specs.declared.symbol_line.Said.{Said}
use Rattle.net_sim.specs.declared.symbol_line.Said.TheVariants.{Nothing, Symbol, Other}
use Rattle.net_sim.specs.Symbols.{IsRefusedLine, SaysSymbol}

-- the line is skipped, gives this symbol, or is refused
abbrev pub SaysAs : ℕ → Line → List Bool → Said → Type 0
SaysAs width line symbol Nothing = is_skipped line ≡ true
SaysAs width line symbol Symbol = SaysSymbol width line symbol
SaysAs width line symbol Other = IsRefusedLine width line
