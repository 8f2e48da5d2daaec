-- The numbers of symbols, line by line.
use Rattle.std.specs.Prelude.{◌≡◌, ℕ, ◌^◌, ◌<◌, ◌⊎◌, true, ⊤, All, List, [], ◌∷◌, ◌++◌, map}
use Rattle.cubes.specs.Symbol.{symbol_of}
use Rattle.hs_io.specs.declared.lines.Line.{Line}
use Rattle.hs_io.specs.Lines.{is_skipped}
use Rattle.net_sim.specs.declared.symbols.SymbolFail.{SymbolFail}
use Rattle.net_sim.specs.declared.symbols.SymbolFail.TheVariants.{NoMemory, Refused}
use Rattle.net_sim.specs.Symbols.{IsRefusedLine, SaysSymbol, SayWord}
use Rattle.net_sim.specs.Inner.RunProgress.{HasTaken}

-- the line is skipped and the list stayed as it was, or the number of the line's symbol was appended
abbrev pub AddedLine : ℕ → Line → List ℕ → List ℕ → Type 0
AddedLine width line old new =
    ((is_skipped line ≡ true) × (new ≡ old))
    ⊎ ((number : ℕ) × (number < 2 ^ width) × SaysSymbol width line (symbol_of width number) × (new ≡ old ++ number ∷ []))

-- the numbers are those of the symbols of the lines before the rest
pub record HasReadTo (width : ℕ) (bytes rest : List ℕ) (count : ℕ) (numbers : List ℕ) : Type 0 where
  pub done : List Line
  pub taken : HasTaken width bytes rest count done
  pub reads : SayWord width done (map (symbol_of width) numbers)
  pub below : All (λ x. x < 2 ^ width) numbers

-- the failure names this line, which is refused, unless memory ran out
abbrev pub TellsRefusedLine : ℕ → Line → SymbolFail → Type 0
TellsRefusedLine width line (Refused number) = (number ≡ line.number) × IsRefusedLine width line
TellsRefusedLine width line NoMemory = ⊤
